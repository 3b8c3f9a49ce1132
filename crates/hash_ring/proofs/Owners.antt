-- Who owns a key, and how a ring's points tell it.
use Rattle.hash_ring.proofs.Common.{ℕ, zero, suc, min, is_some, take, ◌≡◌, ◌≢◌, ◌+◌, ◌-◌, ◌<◌, ◌≤◌, Bool, T, true, false, not, cond, List, [], ◌∷◌, ◌++◌, length, get_or, Option, Some, None, arith, sym, ap, ◌∙◌, subst, refl, ⊎_elim, inl, inr, ◌⊎◌, ◌↔◌, IsTrue, nat_eq, list_any, nat_list_cmp_total, is_sorted, cases_lt, nat_tests, elements, All-contains, All-nil, All-push, All-take, Contains-append_left, Contains-push, get_or_default, get_or-map, length-map, take_more, Any-from_list_any, list_any-from_Any, AllPairs-cons, get_remove, get_remove_other, get_remove_same, same, same_itself, same_key, eq_by_cmp_equiv, Node, Point, AreOwners, IsFirst, IsFirstToPass, without, HasPoint, IsOwner, IsPointOf, Nodes, point, turn, IsBefore, IsRing, IsStart, index_round, name_at, names_at, node_at, nodes_of, pairs, is_gt, length-take-le, Contains-from_any, list_any-from_Contains, rules, common_steps}
use Rattle.std.specs.List.{All, AllPairs, Contains}
use Rattle.std.specs.FinMap as fin
use Rattle.text_set.proofs.TextMapLemmas.{alike as same_if_alike}
use Rattle.hash_ring.proofs.PointLemmas.{is_there}
use Rattle.hash_ring.proofs.Names.{Pairs, by_bytes, found_at, found_where, entries_are, get_is, name_tests, names_rise, no_greater, read}

-- ---- one owner alone
neither_greater : (a b : List ℕ) → is_gt (by_bytes a b) ≡ false → is_gt (by_bytes b a) ≡ false → a ≡ b
neither_greater a b h k = grind (arith, name_tests, h, k)

pub one_owner : (hash : List ℕ → ℕ) (nodes : Nodes) (at : ℕ) (a b : List ℕ) → IsOwner hash nodes at a → IsOwner hash nodes at b → a ≡ b
one_owner hash nodes at a b p q =
    let f = p.first b q.place q.has in
    let g = q.first a p.place p.has in
    search (rules, same, neither_greater)

pub no_owner : (hash : List ℕ → ℕ) (at : ℕ) (a : List ℕ) → ¬ IsOwner hash fin.empty at a
no_owner hash at a o =
    let nothing : Nodes = fin.empty in
    let none : fin.get nothing a ≡ None = fin.get-empty by_bytes a in
    cc

-- ---- a node that has gone
was_there : (nodes : Nodes) (gone name : List ℕ) (w : ℕ) → fin.get (fin.remove nodes gone) name ≡ Some w
    → (name ≢ gone) × (fin.get nodes name ≡ Some w)
was_there nodes gone name w e =
    (λ is. grind (arith, is, e, get_remove_same nodes gone), grind (arith, name_tests, e, get_remove nodes gone name))

pub not_gone : (hash : List ℕ → ℕ) (nodes : Nodes) (at : ℕ) (gone a : List ℕ) → IsOwner hash (fin.remove nodes gone) at a → a ≢ gone
not_gone hash nodes at gone a o = (was_there nodes gone a o.has.weight o.has.there).0

-- an owner that is left owns the key still
pub stays : (hash : List ℕ → ℕ) (nodes : Nodes) (at : ℕ) (gone a : List ℕ) → IsOwner hash nodes at a → a ≢ gone
    → IsOwner hash (fin.remove nodes gone) at a
stays hash nodes at gone a o ne = record {
  place = o.place;
  has = record { weight = o.has.weight; there = get_remove_other nodes gone a ne ∙ o.has.there; point = o.has.point };
  first = λ other next p. o.first other next
      (record { weight = p.weight; there = (was_there nodes gone other p.weight p.there).1; point = p.point });
}

-- ---- one after another
-- the nodes but these
abbrev pub left : Nodes → List (List ℕ) → Nodes
left nodes [] = nodes
left nodes (name ∷ names) = left (fin.remove nodes name) names

-- a name that is none of these
abbrev pub IsNew : List ℕ → List (List ℕ) → Type 0
IsNew name names = Contains names name → ⊥

new_of_none : (name : List ℕ) → IsNew name []
new_of_none name c = absurd (omega (arith, c.1))

new_of_more : (a name : List ℕ) (names : List (List ℕ)) → name ≢ a → IsNew name names → IsNew name (a ∷ names)
new_of_more a name names other new (zero, l, is) = other (sym is)
new_of_more a name names other new (suc k, l, is) = new (k, omega arith, is)

new_of_rest : (a name : List ℕ) (names : List (List ℕ)) → IsNew name (a ∷ names) → IsNew name names
new_of_rest a name names new c = new (suc c.0, omega (arith, c.1), c.2)

was_left : (nodes : Nodes) (names : List (List ℕ)) (name : List ℕ) (w : ℕ) → fin.get (left nodes names) name ≡ Some w
    → IsNew name names × (fin.get nodes name ≡ Some w)
was_left nodes [] name w e = (new_of_none name, e)
was_left nodes (a ∷ names) name w e =
    let rest = was_left (fin.remove nodes a) names name w e in
    let here = was_there nodes a name w rest.1 in
    (new_of_more a name names here.0 rest.0, here.1)

is_left : (nodes : Nodes) (names : List (List ℕ)) (name : List ℕ) → IsNew name names → fin.get (left nodes names) name ≡ fin.get nodes name
is_left nodes [] name new = refl
is_left nodes (a ∷ names) name new =
    is_left (fin.remove nodes a) names name (new_of_rest a name names new)
    ∙ get_remove_other nodes a name (λ is. new (0, omega arith, sym is))

remove_comm : (nodes : Nodes) (a b : List ℕ) → fin.remove (fin.remove nodes a) b ≡ fin.remove (fin.remove nodes b) a
remove_comm nodes a b = search (rules, same_if_alike, get_remove)

not_there : (hash : List ℕ → ℕ) (nodes : Nodes) (at : ℕ) (gone : List ℕ) (names : List (List ℕ)) → fin.get nodes gone ≡ None
    → AreOwners hash nodes at names → IsNew gone names
not_there hash nodes at gone [] none o = new_of_none gone
not_there hash nodes at gone (a ∷ names) none o =
    new_of_more a gone names
    (λ is. grind (arith, is, none, o.0.has.there))
    (not_there hash (fin.remove nodes a) at gone names (grind (arith, name_tests, get_remove nodes a gone, none)) o.1)

other_kept : (gone : List ℕ) (names : List (List ℕ)) → IsNew gone names → without gone names ≡ names
other_kept gone [] new = refl
other_kept gone (a ∷ names) new =
    grind (arith, name_tests, other_kept gone names (new_of_rest a gone names new))

-- where a node is gone the other owners keep their order
pub keep_order : (hash : List ℕ → ℕ) (nodes : Nodes) (at : ℕ) (gone : List ℕ) (names : List (List ℕ)) → AreOwners hash nodes at names
    → AreOwners hash (fin.remove nodes gone) at (without gone names)
keep_order hash nodes at gone [] o = tt
keep_order hash nodes at gone (a ∷ names) o =
    elim (same a gone) as
    (λ b. same a gone ≡ b
    → AreOwners hash (fin.remove nodes gone) at (cond (not b) (a ∷ without gone names) (without gone names))) [
      | true ↦ λ e.
          let rest : AreOwners hash (fin.remove nodes gone) at names =
          subst (λ n. AreOwners hash (fin.remove nodes n) at names) (same_key a gone e) o.1 in
          subst (AreOwners hash (fin.remove nodes gone) at)
          (sym (other_kept gone names (not_there hash (fin.remove nodes gone) at gone names (get_remove_same nodes gone) rest))) rest
      | false ↦ λ e. (
        stays hash nodes at gone a o.0
            (λ is. let yes : same a gone ≡ true = ap (same a) (sym is) ∙ same_itself a in cc),
        subst (λ m. AreOwners hash m at (without gone names)) (remove_comm nodes a gone)
            (keep_order hash (fin.remove nodes a) at gone names o.1),
      )
    ] refl

-- two lists of owners begin alike
pub alike : (hash : List ℕ → ℕ) (nodes : Nodes) (at : ℕ) (xs ys : List (List ℕ)) → AreOwners hash nodes at xs → AreOwners hash nodes at ys
    → length xs ≤ length ys → xs ≡ take (length xs) ys
alike hash nodes at [] ys o p few = refl
alike hash nodes at (x ∷ xs) [] o p few = absurd (omega arith)
alike hash nodes at (x ∷ xs) (y ∷ ys) o p few =
    let same : x ≡ y = one_owner hash nodes at x y o.0 p.0 in
    let rest : AreOwners hash (fin.remove nodes x) at ys = subst (λ n. AreOwners hash (fin.remove nodes n) at ys) (sym same) p.1 in
    λ i. same i ∷ alike hash (fin.remove nodes x) at xs ys o.1 rest (omega arith) i

-- owners one after another are different
pub different : (hash : List ℕ → ℕ) (nodes : Nodes) (at : ℕ) (names : List (List ℕ)) → AreOwners hash nodes at names
    → AllPairs (λ a b. a ≢ b) names
different hash nodes at [] o = λ i j d l m. absurd (omega arith)
different hash nodes at (a ∷ names) o =
    AllPairs-cons (λ a b. a ≢ b) a names
    (λ k d l is. not_there hash (fin.remove nodes a) at a names (get_remove_same nodes a) o.1 (k, l, get_or_default names k a d l ∙ sym is))
    (different hash (fin.remove nodes a) at names o.1)

-- with those that are left they are all nodes
pub count : (hash : List ℕ → ℕ) (nodes : Nodes) (at : ℕ) (names : List (List ℕ)) → AreOwners hash nodes at names
    → fin.len (left nodes names) + length names ≡ fin.len nodes
count hash nodes at [] o = omega arith
count hash nodes at (a ∷ names) o =
    let has = o.0.has in
    let there : is_some (fin.get nodes a) ≡ true = ap is_some has.there in
    let less : fin.len (fin.remove nodes a) ≡ fin.len nodes - 1 =
    fin.len-remove nat_list_cmp_total nodes a ∙ ap (λ b. cond b (fin.len nodes - 1) (fin.len nodes)) there in
    let some : 0 < fin.len nodes =
    ⊎_elim
    (λ (low : 0 < fin.len nodes). low)
    (λ (no : fin.len nodes ≤ 0).
    absurd (no_owner hash at a (subst (λ m. IsOwner hash m at a) (fin.empty_of_len nodes (omega arith)) o.0)))
    (cases_lt 0 (fin.len nodes)) in
    omega (arith, count hash (fin.remove nodes a) at names o.1)

-- one owner more
pub owners_push : (hash : List ℕ → ℕ) (nodes : Nodes) (at : ℕ) (names : List (List ℕ)) (a : List ℕ) → AreOwners hash nodes at names
    → IsOwner hash (left nodes names) at a → AreOwners hash nodes at (names ++ a ∷ [])
owners_push hash nodes at [] a o p = (p, tt)
owners_push hash nodes at (b ∷ names) a o p = (o.0, owners_push hash (fin.remove nodes b) at names a o.1 p)

-- ---- the way round the ring
-- the places of all points with the names of their nodes, in the turn in which they are reached
pub record IsRound (hash : List ℕ → ℕ) (nodes : Nodes) (at n : ℕ) (nth : ℕ → ℕ × List ℕ) : Type 0 where
  pub real : (s : ℕ) → s < n → HasPoint hash nodes (nth s).1 (nth s).0
  pub all : (name : List ℕ) (place : ℕ) → HasPoint hash nodes name place → (s : ℕ) × (s < n) × (nth s ≡ (place, name))
  pub each : (name : List ℕ) (w : ℕ) → fin.get nodes name ≡ Some w → (place : ℕ) × HasPoint hash nodes name place
  pub in_turn : (s t : ℕ) → s ≤ t → t < n → IsFirst at (nth s).1 (nth s).0 (nth t).1 (nth t).0

-- what the names are, after some steps
pub record AreNamesRound (hash : List ℕ → ℕ) (nodes : Nodes) (at : ℕ) (nth : ℕ → ℕ × List ℕ) (names : List (List ℕ)) (steps : ℕ)
    : Type 0 where
  pub own : AreOwners hash nodes at names
  pub passed : (t : ℕ) → t < steps → Contains names (nth t).1

-- the names so far, all of them refused
pub record AreRefusedRound (hash : List ℕ → ℕ) (nodes : Nodes) (at : ℕ) (nth : ℕ → ℕ × List ℕ) (refuses : List ℕ → Type 0) (steps : ℕ)
    : Type 0 where
  pub names : List (List ℕ)
  pub round : AreNamesRound hash nodes at nth names steps
  pub refused : All refuses names

among_or_new : (name : List ℕ) (names : List (List ℕ)) → Contains names name ⊎ IsNew name names
among_or_new name names = elim (list_any (same name) names) as
    (λ b. list_any (same name) names ≡ b → Contains names name ⊎ IsNew name names) [
      | true ↦ λ e. inl (Contains-from_any same_key name names e)
      | false ↦ λ e. inr (λ c. let yes = list_any-from_Contains (eq_by_cmp_equiv nat_list_cmp_total) name names c in cc)
    ] refl

owners_take : (hash : List ℕ → ℕ) (nodes : Nodes) (at : ℕ) (names : List (List ℕ)) (n : ℕ) → AreOwners hash nodes at names
    → AreOwners hash nodes at (take n names)
owners_take hash nodes at [] zero o = tt
owners_take hash nodes at [] (suc n) o = tt
owners_take hash nodes at (a ∷ names) zero o = tt
owners_take hash nodes at (a ∷ names) (suc n) o = (o.0, owners_take hash (fin.remove nodes a) at names n o.1)

module _ {hash : List ℕ → ℕ} {nodes : Nodes} {at n : ℕ} {nth : ℕ → ℕ × List ℕ} (round : IsRound hash nodes at n nth) where
  -- the first point whose node is none of these is the owner's
  pub next_owner : (names : List (List ℕ)) (s : ℕ) → s < n → ((t : ℕ) → t < s → Contains names (nth t).1) → IsNew (nth s).1 names
      → IsOwner hash (left nodes names) at (nth s).1
  next_owner names s below passed new =
      let has = round.real s below in
      record {
        place = (nth s).0;
        has = record { weight = has.weight; there = is_left nodes names (nth s).1 new ∙ has.there; point = has.point };
        first = λ other next p.
            let was = was_left nodes names other p.weight p.there in
            let r = round.all other next (record { weight = p.weight; there = was.1; point = p.point }) in
            ⊎_elim
            (λ (early : r.0 < s). absurd (was.0 (subst (Contains names) (ap (λ (q : ℕ × List ℕ). q.1) r.2) (passed r.0 early))))
            (λ (late : s ≤ r.0). subst (λ (q : ℕ × List ℕ). IsFirst at (nth s).1 (nth s).0 q.1 q.0) r.2 (round.in_turn s r.0 late r.1))
            (cases_lt r.0 s);
      }

  -- each node is among the names of all points
  met : (names : List (List ℕ)) → ((t : ℕ) → t < n → Contains names (nth t).1) → (name : List ℕ) (w : ℕ) → fin.get nodes name ≡ Some w
      → Contains names name
  met names passed name w there =
      let p = round.each name w there in
      let r = round.all name p.0 p.1 in
      subst (Contains names) (ap (λ (q : ℕ × List ℕ). q.1) r.2) (passed r.0 r.1)

  -- where each point's node is among these, no node is left
  pub none_left : (names : List (List ℕ)) → ((t : ℕ) → t < n → Contains names (nth t).1) → left nodes names ≡ fin.empty
  none_left names passed =
      same_if_alike _ _ (λ q. no_one q (fin.get (left nodes names) q) refl ∙ sym (fin.get-empty by_bytes q))
    where
      no_one : (q : List ℕ) (o : Option ℕ) → fin.get (left nodes names) q ≡ o → fin.get (left nodes names) q ≡ None
      no_one q None e = e
      no_one q (Some w) e = let was = was_left nodes names q w e in absurd (was.0 (met names passed q w was.1))

  -- the names when the way round has come to its end
  pub round_all : (names : List (List ℕ)) (m steps : ℕ) → AreNamesRound hash nodes at nth names steps → n ≤ steps → length names ≤ m
      → length names ≡ min m (fin.len nodes)
  round_all names m steps so_far end few =
      let no : fin.len (left nodes names) ≡ 0 = ap fin.len (none_left names (λ t l. so_far.passed t (omega arith))) ∙ fin.len-empty by_bytes ℕ in
      omega (arith, count hash nodes at names so_far.own)

  -- the names when they are enough
  pub round_full : (names : List (List ℕ)) (m : ℕ) → AreOwners hash nodes at names → length names ≡ m → length names ≡ min m (fin.len nodes)
  round_full names m own full = omega (arith, count hash nodes at names own)

  module _ (name : List ℕ) (steps : ℕ) (below : steps < n) (is : (nth steps).1 ≡ name) where
    passed_more : (names more : List (List ℕ)) → ((x : List ℕ) → Contains names x → Contains more x)
        → ((t : ℕ) → t < steps → Contains names (nth t).1) → Contains more name → (t : ℕ) → t < steps + 1 → Contains more (nth t).1
    passed_more names more keeps passed there t l = ⊎_elim
        (λ (low : t < steps). keeps _ (passed t low))
        (λ (high : steps ≤ t). let e : steps ≡ t = omega arith in
        subst (λ (t : ℕ). Contains more (nth t).1) e (subst (Contains more) (sym is) there))
        (cases_lt t steps)

    -- a node that is among the names
    pub round_old : (names : List (List ℕ)) → AreNamesRound hash nodes at nth names steps → Contains names name
        → AreNamesRound hash nodes at nth names (steps + 1)
    round_old names so_far old = record { own = so_far.own; passed = passed_more names names (λ x c. c) so_far.passed old }

    -- a new one
    pub round_new : (names : List (List ℕ)) → AreNamesRound hash nodes at nth names steps → IsNew name names
        → AreNamesRound hash nodes at nth (names ++ name ∷ []) (steps + 1)
    round_new names so_far new = record {
      own = owners_push hash nodes at names name so_far.own
          (subst (IsOwner hash (left nodes names) at) is
          (next_owner names steps below so_far.passed (subst (λ x. IsNew x names) (sym is) new)));
      passed = passed_more names (names ++ name ∷ []) (λ x. Contains-append_left names (name ∷ []) x) so_far.passed (Contains-push names name);
    }

  -- ---- a round on which a test refuses
  module _ (answers : List ℕ → Bool → Type 0) where
    abbrev Refuses : List ℕ → Type 0
    Refuses name = answers name false

    pub refused_start : AreRefusedRound hash nodes at nth Refuses 0
    refused_start = record {
      names = [];
      round = record { own = tt; passed = λ t l. absurd (omega arith) };
      refused = All-nil Refuses;
    }

    pub refused_all : (steps : ℕ) → AreRefusedRound hash nodes at nth Refuses steps → n ≤ steps → (name : List ℕ)
        → fin.get nodes name ≢ None → Refuses name
    refused_all steps so_far end name there = by_weight (fin.get nodes name) refl
      where
        by_weight : (o : Option ℕ) → fin.get nodes name ≡ o → Refuses name
        by_weight None e = absurd (there e)
        by_weight (Some w) e = All-contains Refuses so_far.names name so_far.refused
            (met so_far.names (λ t l. so_far.round.passed t (omega arith)) name w e)

    module _ (name : List ℕ) (steps : ℕ) (below : steps < n) (is : (nth steps).1 ≡ name)
        (so_far : AreRefusedRound hash nodes at nth Refuses steps) where
      pub refused_more : Refuses name → AreRefusedRound hash nodes at nth Refuses (steps + 1)
      refused_more refusal = ⊎_elim
          (λ (old : Contains so_far.names name). search (rules, round_old))
          (λ (new : IsNew name so_far.names). record {
            names = so_far.names ++ name ∷ [];
            round = round_new name steps below is so_far.names so_far.round new;
            refused = All-push Refuses so_far.names name so_far.refused refusal;
          })
          (among_or_new name so_far.names)

      pub first_to_pass : answers name true → IsFirstToPass hash nodes at answers name
      first_to_pass pass = ⊎_elim
          (λ (old : Contains so_far.names name).
          let cut : take (old.0 + 1) so_far.names ≡ take old.0 so_far.names ++ name ∷ [] =
          grind (arith, take_more so_far.names old.0 name old.1, old.2) in
          record {
            before = take old.0 so_far.names;
            owners = subst (AreOwners hash nodes at) cut (owners_take hash nodes at so_far.names (old.0 + 1) so_far.round.own);
            refused = All-take Refuses old.0 so_far.names so_far.refused;
            passes = pass;
          })
          (λ (new : IsNew name so_far.names). search (rules, round_new))
          (among_or_new name so_far.names)

-- ---- the way round a ring's points
upto : (points : List Point) → AllPairs IsBefore points → (i j : ℕ) (d : Point) → i ≤ j → j < length points
    → IsBefore (get_or points i d) (get_or points j d)
upto points before i j d le within = ⊎_elim
    (λ (less : i < j). before i j d less within)
    (λ (same : j ≤ i). let e : i ≡ j = omega arith in record { place = grind (arith, elements); node = λ f. grind (arith, elements) })
    (cases_lt i j)

abbrev pub none : Point
none = record { place = 0; node = 0 }

-- the place of the point some steps after the first, with its node's name
abbrev pub spot : Pairs → List Point → ℕ → ℕ → ℕ × List ℕ
spot es points first s =
    let p = get_or points (index_round (length points) first s) none in
    (p.place, (node_at es p.node).0)

module _ (hash : List ℕ → ℕ) (es : Pairs) (points : List Point) (ring : IsRing hash es points) (at first : ℕ)
    (start : IsStart points at first) where
  abbrev index : ℕ → ℕ
  index s = index_round (length points) first s

  abbrev the : ℕ → Point
  the s = get_or points (index s) none

  -- a point some steps on is after the place, or it is reached when the ring's end is passed
  side : (s : ℕ) → s < length points → ((index s ≡ first + s) × (index s < length points) × (turn at (the s).place ≡ 0))
      ⊎ ((index s + (length points - first) ≡ s) × (index s < length points) × (turn at (the s).place ≡ 1))
  side s below =
      let within : first ≤ length points = start.within in
      ⊎_elim
      (λ (low : s < length points - first).
      let e : index s ≡ first + s = grind (arith, nat_tests) in
      let there : index s < length points = omega (arith, e) in
      let later : at ≤ (the s).place = start.after (index s) none (omega (arith, e)) there in
      inl (e, there, grind (arith, nat_tests)))
      (λ (high : length points - first ≤ s).
      grind (arith, nat_tests, common_steps))
      (cases_lt s (length points - first))

  there : (s : ℕ) → s < length points → index s < length points
  there s below = ⊎_elim (λ a. a.1) (λ b. b.1) (side s below)

  own : (s : ℕ) → s < length points → IsPointOf hash (node_at es (the s).node) (the s).place
  own s below = ring.just.real (index s) none (there s below)

  -- after how many steps a point is reached
  reached : (k : ℕ) (p : Point) → k < length points → get_or points k p ≡ p → (s : ℕ) × (s < length points) × (the s ≡ p)
  reached k p below is =
      let n = length points in
      let here : (s : ℕ) → index s ≡ k → the s ≡ p = λ s e. ap (λ (k : ℕ). get_or points k none) e ∙ get_or_default points k none p below ∙ is in
      ⊎_elim
      (λ (low : k < first). (k + (n - first), omega arith, here (k + (n - first)) (grind (arith, nat_tests))))
      (λ (high : first ≤ k). (k - first, omega arith, here (k - first) (grind (arith, nat_tests))))
      (cases_lt k first)

  in_order : (s t : ℕ) → t < length points → index s ≤ index t → turn at (the s).place ≡ turn at (the t).place
      → IsFirst at (spot es points first s).1 (the s).place (spot es points first t).1 (the t).place
  in_order s t below le turns =
      let b = upto points ring.ordered (index s) (index t) none le (there t below) in
      search (rules, is_there, own, no_greater)

  pub round_of : IsRound hash (nodes_of es) at (length points) (spot es points first)
  round_of = record {
    real = λ s below. search (rules, there, get_is, found_at, is_there, own);
    all = λ name place p.
        let f = found_where es name p.weight (sym (get_is es ring.named name) ∙ p.there) in
        let its : Point = record { place = place; node = f.i } in
        let c = ring.just.all f.i place (rw f.is p.point) in
        let r = reached c.0 its c.1 c.2 in
        (r.0, r.1, ap (λ (q : Point). (q.place, (node_at es q.node).0)) r.2 ∙ (λ j. (place, (f.is j).0)));
    each = λ name w e.
        let f = found_where es name w (sym (get_is es ring.named name) ∙ e) in
        let some : 1 ≤ w = grind (arith, f.is, ring.weighed f.i ([], 0) f.below) in
        (point hash name 0, record { weight = w; there = e; point = record { number = 0; below = some; is = refl } });
    in_turn = λ s t le below. ⊎_elim
        (λ a. ⊎_elim
        (λ b. in_order s t below (omega (arith, a.0, b.0)) (a.2 ∙ sym b.2))
        (λ b. grind (arith, nat_tests, common_steps))
        (side t below))
        (λ a. ⊎_elim
        (λ b. let upto_it : index t < length points = b.1 in absurd (omega (arith, a.0, b.0, le, upto_it)))
        (λ b. in_order s t below (omega (arith, a.0, b.0)) (a.2 ∙ sym b.2))
        (side t below))
        (side s (omega arith));
  }

  -- the node of the first point owns the place
  pub first_owner : 0 < length points → IsOwner hash (nodes_of es) at (spot es points first 0).1
  first_owner some = next_owner round_of [] 0 some (λ t l. absurd (omega arith)) (new_of_none _)

-- the name that the code reads
pub name_here : (hash : List ℕ → ℕ) (nodes : List Node) (points : List Point) → IsRing hash (pairs nodes) points
    → (k : ℕ) (d : Node) (text : List ℕ) → k < length points → text ≡ (get_or nodes (get_or points k none).node d).name.items
    → name_at (pairs nodes) points k ≡ text
name_here hash nodes points ring k d text below is = search (rules, there, is_there, length-map, read)

pub name_read : (hash : List ℕ → ℕ) (nodes : List Node) (points : List Point) → IsRing hash (pairs nodes) points
    → (first steps k : ℕ) (d : Node) (text : List ℕ) → k < length points → k ≡ index_round (length points) first steps
    → text ≡ (get_or nodes (get_or points k none).node d).name.items → (spot (pairs nodes) points first steps).1 ≡ text
name_read hash nodes points ring first steps k d text below index is =
    ap (name_at (pairs nodes) points) (sym index) ∙ name_here hash nodes points ring k d text below is

-- a ring of no points has no nodes
pub no_points : (hash : List ℕ → ℕ) (es : Pairs) (points : List Point) → IsRing hash es points → length points ≡ 0 → nodes_of es ≡ fin.empty
no_points hash es points ring none =
    let start : IsStart points 0 0 =
    record { within = omega arith; before = λ k d l. absurd (omega arith); after = λ k d l m. absurd (omega arith) } in
    none_left (round_of hash es points ring 0 0 start) [] (λ t l. absurd (omega arith))

-- ---- nodes by their indices
-- a name has one index
pub one_index : (es : Pairs) → T (is_sorted by_bytes es) → (i j : ℕ) → i < length es → j < length es
    → (node_at es i).0 ≡ (node_at es j).0 → i ≡ j
one_index es sorted i j low high is = ⊎_elim
    (λ (less : i < j). grind (arith, name_tests, is, names_rise es sorted i j less high))
    (λ (no : j ≤ i). ⊎_elim
    (λ (more : j < i). grind (arith, name_tests, is, names_rise es sorted j i more low))
    (λ (upto : i ≤ j). omega arith)
    (cases_lt j i))
    (cases_lt i j)

-- what a search for a node says
pub among_exactly : (nodes : List ℕ) (node : ℕ) (b : Bool) → b ≡ list_any (λ y. nat_eq y node) nodes → IsTrue b ↔ Contains nodes node
among_exactly nodes node b e = search (rules, Any-from_list_any, get_or_default, list_any-from_Any)

module _ (es : Pairs) (sorted : T (is_sorted by_bytes es)) where
  -- some nodes of those that are there, by their indices
  module _ (nodes : List ℕ) (real : All (λ i. i < length es) nodes) (node : ℕ) (below : node < length es) where
    -- a node is among them exactly if its name is among theirs
    pub name_among : Contains nodes node → Contains (names_at es nodes) (node_at es node).0
    name_among c = search (rules, length-map, get_or-map)

    pub node_among : Contains (names_at es nodes) (node_at es node).0 → Contains nodes node
    node_among c = search (rules, length-map, one_index, get_or-map)

  -- how many they are
  pub as_many : (nodes : List ℕ) (count m : ℕ) → count ≤ length nodes
      → length (names_at es (take count nodes)) ≡ min m (fin.len (nodes_of es)) → count ≡ min m (length es)
  as_many nodes many m few is =
      let long = length-map (take many nodes) (λ (i : ℕ). (node_at es i).0) ∙ length-take-le many nodes few in
      let all : fin.len (nodes_of es) ≡ length es = fin.len-entries _ ∙ ap length (entries_are es sorted) in
      sym long ∙ is ∙ ap (min m) all
