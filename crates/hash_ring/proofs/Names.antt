-- Nodes in the order of their names.
use Rattle.hash_ring.proofs.Common.{ℕ, zero, suc, ◌≡◌, ◌≢◌, ◌+◌, ◌<◌, ◌≤◌, T, Bool, true, false, not, cond, ◌&&◌, List, [], ◌∷◌, length, get_or, Some, None, Result, Ok, Err, arith, sym, ap, ◌∙◌, subst, refl, ⊎_elim, ◌⊎◌, inl, inr, ◌↔◌, IsTrue, map, reverse, MatchResult, Ordering, Less, Equal, Greater, IsAllAdjacentAnswer, IsDistinct, IsSorted, IsBinarySearchResult, IsSearchInRange, IsSortedBy, nat_cmp, is_eq, eq_by_cmp, ordering_reverse, ordering_then, slice_cmp, nat_list_cmp_total, find, put, is_sorted, slice_cmp-IsAntisymmetric, nat_cmp-IsAntisymmetric, cases_lt, tied_itself, eq_by_cmp_equiv, length-map, get_or-map, get_or_default, reverse-append, IsPermutation-map, IsPermutation-reverse, searchable_from_sorted, alike, not_same, order_does_not_show, removal_of_nothing, same, same_itself, same_key, Node, Nodes, IsGapAt, IsNamedAt, node_at, nodes_of, pair_of, pairs, IsDistinct-IsPermutation, IsDistinct-from_apart, apart_from_distinct, nat_tests, common_steps}
use Rattle.std.specs.List.{insert, remove}
use Rattle.std.specs.List.Sorted.{IsPermutation}
use Rattle.std.specs.Ordering.{is_lt, is_gt}
use Rattle.std.specs.FinMap as fin
use Rattle.std.specs.FinMap.Entries.{below_all, where_key, by_order, is_sorted-put, is_sorted-where_key, find-where_key}
use Rattle.text_set.specs.TextMaps.{KeysDiffer, with_all}

abbrev pub Pairs : Type 0
Pairs = List (List ℕ × ℕ)

abbrev pub by_bytes : List ℕ → List ℕ → Ordering
by_bytes = slice_cmp nat_cmp

pub itself : (k : List ℕ) → by_bytes k k ≡ Equal
itself k = tied_itself nat_list_cmp_total k

-- how two names stand, told both ways, for `grind`
pub order_tells : (a b : List ℕ) → ((by_bytes a b ≡ Less) × (by_bytes b a ≡ Greater))
    ⊎ (((by_bytes a b ≡ Equal) × (a ≡ b)) ⊎ ((by_bytes a b ≡ Greater) × (by_bytes b a ≡ Less)))
order_tells a b = elim (by_bytes a b) as (λ r. by_bytes a b ≡ r
    → ((r ≡ Less) × (by_bytes b a ≡ Greater)) ⊎ (((r ≡ Equal) × (a ≡ b)) ⊎ ((r ≡ Greater) × (by_bytes b a ≡ Less)))) [
      | Less ↦ λ e. inl (refl, nat_list_cmp_total.antisymm b a ∙ ap ordering_reverse e)
      | Equal ↦ λ e. inr (inl (refl, same_key a b (ap is_eq e)))
      | Greater ↦ λ e. inr (inr (refl, nat_list_cmp_total.antisymm b a ∙ ap ordering_reverse e))
    ] refl

pub ruleset name_tests = (order_tells, itself)

less_is : (r : Ordering) → T (is_lt r) → r ≡ Less
less_is Less h = refl
less_is Equal h = absurd h
less_is Greater h = absurd h

both_parts : (a b : Bool) → T (a && b) → T a × T b
both_parts true b h = (tt, h)
both_parts false b h = absurd h

-- the first name of those above another, and of those that rise
above_head : (x : List ℕ) (e : List ℕ × ℕ) (es : Pairs) → T (below_all by_bytes x (e ∷ es))
    → (by_bytes x e.0 ≡ Less) × T (below_all by_bytes x es)
above_head x e es h = let parts = both_parts _ _ h in (less_is _ parts.0, parts.1)

rising_head : (e : List ℕ × ℕ) (es : Pairs) → T (is_sorted by_bytes (e ∷ es))
    → T (below_all by_bytes e.0 es) × T (is_sorted by_bytes es)
rising_head e es h = both_parts _ _ h

below_at : (x : List ℕ) (es : Pairs) (j : ℕ) → T (below_all by_bytes x es) → j < length es → by_bytes x (node_at es j).0 ≡ Less
below_at x [] j h l = absurd (omega arith)
below_at x (e ∷ es) zero h l = (above_head x e es h).0
below_at x (e ∷ es) (suc j) h l = below_at x es j (above_head x e es h).1 (omega arith)

-- each name is less than those after it
pub names_rise : (es : Pairs) → T (is_sorted by_bytes es) → (i j : ℕ) → i < j → j < length es
    → by_bytes (node_at es i).0 (node_at es j).0 ≡ Less
names_rise [] h i j l m = absurd (omega arith)
names_rise (e ∷ es) h i zero l m = absurd (omega arith)
names_rise (e ∷ es) h zero (suc j) l m = below_at e.0 es j (rising_head e es h).0 (omega arith)
names_rise (e ∷ es) h (suc i) (suc j) l m = names_rise es (rising_head e es h).1 i j (omega arith) (omega arith)

-- and where each is less than the next, each is less than those after it
rises_from : (nodes : List Node)
    → ((k : ℕ) (d : Node) → k + 1 < length nodes → by_bytes (get_or nodes k d).name.items (get_or nodes (k + 1) d).name.items ≡ Less)
    → T (is_sorted by_bytes (pairs nodes))
rises_from [] next = tt
rises_from (a ∷ []) next = tt
rises_from (a ∷ b ∷ nodes) next =
    let name = a.name.items in
    let w = a.weight in
    let es = pairs nodes in
    subst (λ r. T (is_sorted by_bytes (by_order r ((name, w) ∷ pair_of b ∷ es) ((b.name.items, w) ∷ es) (pair_of b ∷ put by_bytes name w es))))
    (next 0 a (omega arith))
    (is_sorted-put by_bytes nat_list_cmp_total name w (pairs (b ∷ nodes))
    (rises_from (b ∷ nodes)
    (λ k d l.
    let more : suc k + 1 ≡ suc (k + 1) = omega arith in
    subst (λ n. by_bytes (get_or (b ∷ nodes) k d).name.items (get_or (a ∷ b ∷ nodes) n d).name.items ≡ Less) more (next (suc k) d (omega arith)))))

pub read : (nodes : List Node) (d : Node) (k : ℕ) → k < length nodes → (node_at (pairs nodes) k).0 ≡ (get_or nodes k d).name.items
read nodes d k l = ap (λ node. node.0) (get_or-map pair_of nodes k d ([], 0) l)

-- what a test of all neighbours says
pub rise_exactly : (nodes : List Node) (r : Bool)
    → IsAllAdjacentAnswer (λ a b t. t ≡ is_lt (by_bytes a.name.items b.name.items)) nodes r → IsTrue r ↔ T (is_sorted by_bytes (pairs nodes))
rise_exactly nodes true all = (λ _. rises_from nodes (λ k d l. less_is _ (subst T (all k d l) tt)), λ _. refl)
rise_exactly [] false broken = absurd (omega (arith, broken.1))
rise_exactly (n ∷ ns) false broken = (
  λ no. cc,
  λ sorted.
      let nodes = n ∷ ns in
      let k : ℕ = broken.0 in
      let rise = names_rise (pairs nodes) sorted k (k + 1) (omega arith) (omega (arith, broken.1, length-map nodes pair_of)) in
      grind (arith, nat_tests, common_steps, read nodes n k (omega (arith, broken.1)), read nodes n (k + 1) broken.1),
)

-- names that rise differ
pub rising_differ : (es : Pairs) → T (is_sorted by_bytes es) → KeysDiffer es
rising_differ es h i j d low m same =
    grind (
      arith,
      name_tests,
      same,
      names_rise es h i j low m,
      get_or_default es i d ([], 0) (omega arith),
      get_or_default es j d ([], 0) m,
    )

-- names that differ do so in any order
by_names : (es : Pairs) → IsDistinct same (map (λ e. e.0) es) → KeysDiffer es
by_names es apart = λ i j d less within is.
    let long = length-map es (λ e. e.0) in
    let name = λ (k : ℕ) (l : k < length es). get_or-map (λ (e : List ℕ × ℕ). e.0) es k d d.0 l in
    let not_same : same (get_or es i d).0 (get_or es j d).0 ≡ false =
    (λ k. same (sym (name i (omega (arith, less, within))) k) (sym (name j within) k))
    ∙ apart_from_distinct same (map (λ e. e.0) es) i j d.0 apart less (omega (arith, within, long)) in
    let yes : same (get_or es i d).0 (get_or es j d).0 ≡ true = ap (same (get_or es i d).0) (sym is) ∙ same_itself (get_or es i d).0 in
    cc

pub KeysDiffer-permutation : (xs ys : Pairs) → IsPermutation xs ys → KeysDiffer xs → KeysDiffer ys
KeysDiffer-permutation xs ys moved differ =
    by_names ys (IsDistinct-IsPermutation same (eq_by_cmp_equiv nat_list_cmp_total).symm (map (λ e. e.0) xs) (map (λ e. e.0) ys)
    (IsPermutation-map (λ e. e.0) xs ys moved)
    (IsDistinct-from_apart same (map (λ e. e.0) xs) (λ i j d less within.
    let long = length-map xs (λ e. e.0) in
    not_same _ _ (λ is. differ i j (d, 0) less (omega (arith, within, long))
    (sym (get_or-map (λ e. e.0) xs i (d, 0) d (omega (arith, less, within, long))) ∙ is
    ∙ get_or-map (λ e. e.0) xs j (d, 0) d (omega (arith, within, long)))))))

-- nodes in order rise where their names differ
abbrev by_name : Node → Node → Ordering
by_name a b = ordering_then (by_bytes a.name.items b.name.items) (nat_cmp a.weight b.weight)

less_of_two : (a b : Node) → is_lt (by_name b a) ≡ false → a.name.items ≢ b.name.items
    → by_bytes a.name.items b.name.items ≡ Less
less_of_two a b h ne = grind (arith, name_tests, h, ne)

pub sorted_rise : (nodes : List Node) → IsSorted by_name nodes → KeysDiffer (pairs nodes) → T (is_sorted by_bytes (pairs nodes))
sorted_rise nodes sorted differ = grind (arith, nat_tests, common_steps, rises_from, less_of_two, length-map, read, same)

-- a node at an index is found
pub found_at : (es : Pairs) → T (is_sorted by_bytes es) → (i : ℕ) → i < length es
    → find by_bytes (node_at es i).0 es ≡ Some (node_at es i).1
found_at [] h i l = absurd (omega arith)
found_at (e ∷ es) h zero l = grind (arith, name_tests)
found_at (e ∷ es) h (suc i) l =
    let (above, rising) = rising_head e es h in
    grind (arith, name_tests, below_at e.0 es i above (omega arith), found_at es rising i (omega arith))

-- where a node that is found stands
pub record IsFoundAt (es : Pairs) (q : List ℕ) (w : ℕ) : Type 0 where
  pub i : ℕ
  pub below : i < length es
  pub is : node_at es i ≡ (q, w)

pub found_where : (es : Pairs) (q : List ℕ) (w : ℕ) → find by_bytes q es ≡ Some w → IsFoundAt es q w
found_where [] q w e = cc
found_where (x ∷ es) q w e =
    elim (is_eq (by_bytes q x.0)) as
    (λ b. is_eq (by_bytes q x.0) ≡ b → cond b (Some x.1) (find by_bytes q es) ≡ Some w → IsFoundAt (x ∷ es) q w) [
      | true ↦ λ t s. let value : x.1 ≡ w = cc in let name : q ≡ x.0 =
          same_key q x.0 t in record { i = 0; below = omega arith; is = λ j. (sym name j, value j) }
      | false ↦ λ t s. let r = found_where es q w s in record { i = suc r.i; below = omega (arith, r.below); is = r.is }
    ] refl e

-- the name at an index is no greater than at a later one
pub no_greater : (es : Pairs) → T (is_sorted by_bytes es) → (i j : ℕ) → i ≤ j → j < length es
    → is_gt (by_bytes (node_at es i).0 (node_at es j).0) ≡ false
no_greater es h i j upto m = ⊎_elim
    (λ (low : i < j). ap is_gt (names_rise es h i j low m))
    (λ (same : j ≤ i). let e : i ≡ j = omega arith in grind (arith, name_tests, e))
    (cases_lt i j)

-- ---- a search by name
sorted_nodes : (nodes : List Node) → T (is_sorted by_bytes (pairs nodes))
    → IsSortedBy (λ a b. is_lt (by_bytes a.name.items b.name.items)) nodes
sorted_nodes nodes h k d low next =
    let rise = names_rise (pairs nodes) h k (k + 1) (omega arith) (omega (arith, next, length-map nodes pair_of)) in
    grind (arith, name_tests, rise, read nodes d (k + 1) next, read nodes d k (omega (arith, next)))

pub named_or_gap : (nodes : List Node) (name : List ℕ) (r : Result ℕ ℕ) → T (is_sorted by_bytes (pairs nodes))
    → IsSearchInRange r (length nodes)
    → IsBinarySearchResult (λ node. by_bytes node.name.items name) nodes r
    → MatchResult r (IsNamedAt (pairs nodes) name) (IsGapAt (pairs nodes) name)
named_or_gap [] name (Ok i) h below is = absurd (omega arith)
named_or_gap [] name (Err i) h within is = grind (arith, nat_tests, common_steps)
named_or_gap (d ∷ ds) name (Ok i) h below is =
    let nodes = d ∷ ds in
    let long = length-map nodes pair_of in
    grind (arith, nat_tests, common_steps, read nodes d i below, same_key (get_or nodes i d).name.items name (ap is_eq (is d)))
named_or_gap (d ∷ ds) name (Err i) h within is =
    let nodes = d ∷ ds in
    let long = length-map nodes pair_of in
    let at = is (searchable_from_sorted nat_list_cmp_total (λ (node : Node). node.name.items) nodes name (sorted_nodes nodes h)) in
    record {
      within = omega arith;
      less = λ k l. ap (λ x. by_bytes x name) (read nodes d k (omega arith)) ∙ at.0 k d (omega arith) l;
      greater = λ k l m. ap (λ x. by_bytes x name) (read nodes d k (omega arith)) ∙ at.1 k d l (omega arith);
    }

-- ---- a node more, and one less
tail_gap : (e : List ℕ × ℕ) (es : Pairs) (name : List ℕ) (i : ℕ) → IsGapAt (e ∷ es) name (suc i) → IsGapAt es name i
tail_gap e es name i gap = record {
  within = omega (arith, gap.within);
  less = λ k l. gap.less (suc k) (omega arith);
  greater = λ k l m. gap.greater (suc k) (omega arith) (omega arith);
}

put_at : (es : Pairs) (name : List ℕ) (w i : ℕ) → IsGapAt es name i → put by_bytes name w es ≡ insert es i (name, w)
put_at [] name w zero gap = refl
put_at [] name w (suc i) gap = absurd (omega (arith, gap.within))
put_at (e ∷ es) name w zero gap = grind (arith, name_tests, gap.greater 0 (omega arith) (omega arith))
put_at (e ∷ es) name w (suc i) gap =
    grind (arith, name_tests, gap.less 0 (omega arith), put_at es name w i (tail_gap e es name i gap))

not_found : (es : Pairs) (name : List ℕ) (i : ℕ) → IsGapAt es name i → find by_bytes name es ≡ None
not_found [] name i gap = refl
not_found (e ∷ es) name zero gap =
    let rest : IsGapAt es name 0 = record {
      within = omega arith;
      less = λ k l. absurd (omega arith);
      greater = λ k l m. gap.greater (suc k) (omega arith) (omega arith);
    } in
    grind (arith, name_tests, gap.greater 0 (omega arith) (omega arith), not_found es name 0 rest)
not_found (e ∷ es) name (suc i) gap =
    grind (arith, name_tests, gap.less 0 (omega arith), not_found es name i (tail_gap e es name i gap))

-- every name but this one
abbrev other : List ℕ → List ℕ → Bool
other name = λ x. not (eq_by_cmp by_bytes name x)

all_kept : (name : List ℕ) (es : Pairs) → T (below_all by_bytes name es) → where_key by_bytes (other name) es ≡ es
all_kept name [] h = refl
all_kept name (e ∷ es) h = let (less, above) = above_head name e es h in grind (arith, less, all_kept name es above)

removed_at : (es : Pairs) → T (is_sorted by_bytes es) → (i : ℕ) → i < length es
    → where_key by_bytes (other (node_at es i).0) es ≡ remove es i
removed_at [] h i l = absurd (omega arith)
removed_at (e ∷ es) h zero l = grind (arith, name_tests, all_kept e.0 es (rising_head e es h).0)
removed_at (e ∷ es) h (suc i) l =
    let (above, rising) = rising_head e es h in
    grind (arith, name_tests, below_at e.0 es i above (omega arith), removed_at es rising i (omega arith))

-- ---- the map of the nodes
module _ (es : Pairs) (h : T (is_sorted by_bytes es)) where
  pub entries_are : fin.entries (nodes_of es) ≡ es
  entries_are = fin.entries-from_sorted by_bytes es h

  pub entries_of : (m : Nodes) → nodes_of es ≡ m → es ≡ fin.entries m
  entries_of m view = sym entries_are ∙ ap fin.entries view

  pub get_is : (q : List ℕ) → fin.get (nodes_of es) q ≡ find by_bytes q es
  get_is q = fin.get-from_sorted by_bytes es q h

  pub inserted_sorted : (name : List ℕ) (w i : ℕ) → IsGapAt es name i → T (is_sorted by_bytes (insert es i (name, w)))
  inserted_sorted name w i gap =
      subst (λ es. T (is_sorted by_bytes es)) (put_at es name w i gap) (is_sorted-put by_bytes nat_list_cmp_total name w es h)

  pub inserted : (name : List ℕ) (w i : ℕ) → IsGapAt es name i → nodes_of (insert es i (name, w)) ≡ fin.insert (nodes_of es) name w
  inserted name w i gap =
      fin.same_entries_map _ _
      (fin.entries-from_sorted by_bytes _ (inserted_sorted name w i gap)
      ∙ sym (fin.entries-insert nat_list_cmp_total (nodes_of es) name w ∙ ap (put by_bytes name w) entries_are ∙ put_at es name w i gap))

  pub removed_sorted : (i : ℕ) → i < length es → T (is_sorted by_bytes (remove es i))
  removed_sorted i l =
      subst (λ es. T (is_sorted by_bytes es)) (removed_at es h i l) (is_sorted-where_key by_bytes (other (node_at es i).0) es h)

  pub removed : (i : ℕ) → i < length es → nodes_of (remove es i) ≡ fin.remove (nodes_of es) (node_at es i).0
  removed i l =
      let name = (node_at es i).0 in
      fin.same_map nat_list_cmp_total (slice_cmp-IsAntisymmetric nat_cmp-IsAntisymmetric) _ _
      (λ q. fin.get-from_sorted by_bytes _ q (removed_sorted i l)
      ∙ ap (find by_bytes q) (sym (removed_at es h i l))
      ∙ find-where_key by_bytes (other name) q (λ x e. ap (other name) (sym (slice_cmp-IsAntisymmetric nat_cmp-IsAntisymmetric q x e))) es
      ∙ elim (eq_by_cmp by_bytes name q) as
      (λ b. cond (not b) (find by_bytes q es) None ≡ cond b None (find by_bytes q es))
      [ true ↦ refl | false ↦ refl ]
      ∙ sym (fin.get-remove nat_list_cmp_total (nodes_of es) name q
      ∙ (λ j. cond ((eq_by_cmp_equiv nat_list_cmp_total).symm q name j) None (get_is q j))))

pub no_nodes : nodes_of [] ≡ fin.empty
no_nodes =
    fin.same_map nat_list_cmp_total (slice_cmp-IsAntisymmetric nat_cmp-IsAntisymmetric) _ _
    (λ q. fin.get-from_sorted by_bytes [] q tt ∙ sym (fin.get-empty by_bytes q))

-- all nodes put in one after the other, in whatever order
from_last : (es : Pairs) → with_all fin.empty (reverse es) ≡ fin.from_entries es
from_last [] = refl
from_last (e ∷ es) = grind (arith, nat_tests, common_steps, reverse-append (e ∷ []) es, from_last es)

pub all_put_in : (es : Pairs) → T (is_sorted by_bytes es) → with_all fin.empty es ≡ nodes_of es
all_put_in es h =
    order_does_not_show fin.empty es (reverse es) (rising_differ es h) (IsPermutation-reverse es) ∙ from_last es
    ∙ alike _ _ (λ q. fin.get-from_entries nat_list_cmp_total es q ∙ sym (get_is es h q))

-- ---- the nodes of a map in a list
module _ (nodes : List Node) (m : Nodes) (h : T (is_sorted by_bytes (pairs nodes))) (view : nodes_of (pairs nodes) ≡ m) where
  pub len_of : length nodes ≡ length (fin.entries m)
  len_of = sym (length-map nodes pair_of) ∙ ap length (entries_of (pairs nodes) h m view)

  pub gap_read : (text name : List ℕ) → text ≡ name → (i : ℕ) → IsGapAt (fin.entries m) text i → IsGapAt (pairs nodes) name i
  gap_read text name is i gap =
      subst (λ t. IsGapAt (pairs nodes) t i) is (subst (λ es. IsGapAt es text i) (sym (entries_of (pairs nodes) h m view)) gap)

-- ---- what a search by name says of the map
module _ (m : Nodes) (name : List ℕ) where
  pub absent : (i : ℕ) → IsGapAt (fin.entries m) name i → fin.get m name ≡ None
  absent i gap = fin.get-entries m name ∙ not_found (fin.entries m) name i gap

  pub found : (i : ℕ) → IsNamedAt (fin.entries m) name i → fin.get m name ≡ Some (node_at (fin.entries m) i).1
  found i place =
      fin.get-entries m name ∙ ap (λ q. find by_bytes q (fin.entries m)) (sym place.is)
      ∙ found_at (fin.entries m) (fin.entries_sorted m) i place.below

  pub none_unchanged : (i : ℕ) → IsGapAt (fin.entries m) name i → m ≡ fin.remove m name
  none_unchanged i gap = sym (removal_of_nothing m name (absent i gap))
