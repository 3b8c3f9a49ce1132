-- The points of nodes, in a list and in order.
use Rattle.hash_ring.proofs.Common.{ℕ, ◌≡◌, ◌<◌, ◌≤◌, ◌+◌, ◌-◌, ◌/◌, ◌++◌, ◌∷◌, [], Bool, true, ltb, if◌then◌else◌, List, length, get_or, map, arith, sym, ap, ◌∙◌, subst, refl, false, Some, ◌⊎◌, ⊎_elim, ◌↔◌, IsTrue, Ordering, All-append, Contains-append_left, Contains-append_right, IsAllAdjacentAnswer, IsNonDecreasingBy, IsSorted, nat_cmp, is_le, is_some_and, ordering_then, partial_ordering_then, nat_tests, then_total, on_total, nat_cmp_total, get_or_default, get_or_past, get_or-map, length-map, All-permutation, Contains-permutation, sorted_far, ranks_by, elements, Point, IsPointOf, point, ArePoints, IsBefore, IsPointOfItsNode, IsStart, node_at, points_of, append_assoc, map-range_with_len_more, length-map-range_with_len, get_or-map-range_with_len, rules, common_steps}
use Rattle.std.specs.List.{All, AllPairs, Contains}
use Rattle.std.specs.List.Sorted.{IsPermutation}
use Rattle.std.specs.Ordering.{is_lt}

abbrev pub Pairs : Type 0
Pairs = List (List ℕ × ℕ)

-- a node that has a point is there
pub is_there : (hash : List ℕ → ℕ) (nodes : Pairs) (i place : ℕ) → IsPointOf hash (node_at nodes i) place → i < length nodes
is_there hash nodes i place of = grind (arith, elements, get_or_past, of.below)

module _ (hash : List ℕ → ℕ) where
  -- a point of a node is among the node's points, and only such are
  pub among : (node : List ℕ × ℕ) (i place : ℕ) → IsPointOf hash node place
      → Contains (points_of hash node i) (record { place = place; node = i })
  among node i place of = search (rules, length-map-range_with_len, get_or-map-range_with_len)

  pub each : (node : List ℕ × ℕ) (i : ℕ) → All (λ p. (p.node ≡ i) × IsPointOf hash node p.place) (points_of hash node i)
  each node i k d below = search (rules, length-map-range_with_len, get_or-map-range_with_len)

  -- a point more
  pub one_more : (name : List ℕ) (k i : ℕ) (points now : List Point) (place : ℕ) → now ≡ points ++ points_of hash (name, k) i
      → place ≡ point hash name k → now ++ record { place = place; node = i } ∷ [] ≡ points ++ points_of hash (name, k + 1) i
  one_more name k i points now place so_far is =
      let nth = λ (j : ℕ). let p : Point = record { place = point hash name j; node = i } in p in
      let more = map-range_with_len_more nth 0 k k (omega arith) in
      grind (arith, so_far, is, more, append_assoc)

  -- all points of some nodes, and none that is no node's
  pub record AreThese (nodes : Pairs) (some : ℕ → Type 0) (points : List Point) : Type 0 where
    pub real : All (IsPointOfItsNode hash nodes) points
    pub all : (i place : ℕ) → some i → IsPointOf hash (node_at nodes i) place → Contains points (record { place = place; node = i })

  pub one_node_more : (nodes : Pairs) (some more : ℕ → Type 0) (points : List Point) (k : ℕ) (node : List ℕ × ℕ) → AreThese nodes some points
      → node_at nodes k ≡ node → ((i : ℕ) → more i → some i ⊎ (i ≡ k)) → AreThese nodes more (points ++ points_of hash node k)
  one_node_more nodes some more points k node these is either =
      let its = points_of hash node k in
      record {
        real = All-append (IsPointOfItsNode hash nodes) points its these.real
            (λ j d l. let p = get_or its j d in let of = each node k j d l in
            subst (λ n. IsPointOf hash n p.place) (sym (ap (node_at nodes) of.0 ∙ is)) of.1);
        all = λ i place there of. ⊎_elim
            (λ (old : some i). Contains-append_left points its _ (these.all i place old of))
            (λ (here : i ≡ k). Contains-append_right points its _
            (subst (λ (j : ℕ). Contains its (record { place = place; node = j })) (sym here)
            (among node k place (subst (λ n. IsPointOf hash n place) (ap (node_at nodes) here ∙ is) of))))
            (either i there);
      }

  -- in whatever order the points stand
  pub ArePoints-permutation : (nodes : Pairs) (points moved : List Point) → IsPermutation points moved → ArePoints hash nodes points
      → ArePoints hash nodes moved
  ArePoints-permutation nodes points moved same are = record {
    real = All-permutation (IsPointOfItsNode hash nodes) points moved same are.real;
    all = λ i place of. Contains-permutation points moved _ same (are.all i place of);
  }

-- ---- points in order
abbrev by_place : Point → Point → Ordering
by_place a b = ordering_then (nat_cmp a.place b.place) (nat_cmp a.node b.node)

not_less : (a b : Point) → is_lt (by_place b a) ≡ false → IsBefore a b
not_less a b e = record { place = grind (arith, nat_tests); node = λ same. grind (arith, nat_tests) }

pub in_order : (points : List Point) → IsSorted by_place points → AllPairs IsBefore points
in_order points sorted i j d less within =
    let o = ranks_by (then_total (on_total (λ (p : Point). p.place) nat_cmp_total) (on_total (λ (p : Point). p.node) nat_cmp_total))
    (λ (p : Point). p) in
    not_less _ _ (sorted_far _ o points sorted i j d (omega arith) within)

-- what `<=` says of two points
abbrev is_no_more : Point → Point → Bool
is_no_more a b = is_some_and is_le (partial_ordering_then (Some (nat_cmp a.place b.place)) (Some (nat_cmp a.node b.node)))

no_less_behind : (a b : Point) → is_no_more a b ≡ true → is_lt (by_place b a) ≡ false
no_less_behind a b e = grind (arith, nat_tests)

no_more_before : (a b : Point) → IsBefore a b → is_no_more a b ≡ true
no_more_before a b p = grind (arith, nat_tests, p.place, p.node)

-- what a test of all neighbours says
pub sorted_exactly : (points : List Point) (r : Bool) → IsAllAdjacentAnswer (λ a b t. is_no_more a b ≡ t) points r
    → IsTrue r ↔ AllPairs IsBefore points
sorted_exactly points true all = (λ _. in_order points (λ k d from next. no_less_behind (get_or points k d) (get_or points (k + 1) d) (all k d next)), λ _. refl)
sorted_exactly points false broken = (
  λ no. cc,
  λ ordered.
      let d : Point = record { place = 0; node = 0 } in
      grind (arith, nat_tests, common_steps, no_more_before _ _ (ordered broken.0 (broken.0 + 1) d (omega arith) broken.1)),
)

-- what `<` says of two points
abbrev is_less : Point → Point → Bool
is_less a b = is_some_and is_lt (partial_ordering_then (Some (nat_cmp a.place b.place)) (Some (nat_cmp a.node b.node)))

pub before_if_less : (a b : Point) → is_less a b ≡ true → IsBefore a b
before_if_less a b e = record { place = grind (arith, nat_tests); node = λ same. grind (arith, nat_tests) }

pub before_if_not_less : (a b : Point) → is_less a b ≡ false → IsBefore b a
before_if_not_less a b e = record { place = grind (arith, nat_tests); node = λ same. grind (arith, nat_tests) }

pub before_both : (a b c : Point) → IsBefore a b → IsBefore b c → IsBefore a c
before_both a b c p q = record { place = omega (arith, p.place, q.place); node = λ same. grind arith }

-- what keeps the order of two points keeps that of all
pub mapped_in_order : (f : Point → Point) → ((p q : Point) → IsBefore p q → IsBefore (f p) (f q)) → (points : List Point)
    → AllPairs IsBefore points → AllPairs IsBefore (map f points)
mapped_in_order f keeps points before i j d less within =
    let l : j < length points = omega (arith, length-map points f) in
    rw (get_or-map f points i d d (omega arith), get_or-map f points j d d l) (keeps _ _ (before i j d less l))

-- no place is above a later one
pub places_rise : (points : List Point) → AllPairs IsBefore points → IsNonDecreasingBy (λ p. p.place) points
places_rise points before i j d upto within = grind (arith, elements)

-- the points below `first` come before the place, and those behind the `size` ones after them don't
pub record IsWindow (points : List Point) (at first size : ℕ) : Type 0 where
  pub within : first + size ≤ length points
  pub before : (k : ℕ) (d : Point) → k < first → (get_or points k d).place < at
  pub after : (k : ℕ) (d : Point) → first + size ≤ k → k < length points → at ≤ (get_or points k d).place

-- whichever half it is, it lies in the list
pub within_half : (first size n : ℕ) (is : Bool) → first + size ≤ n → first + (if is then size / 2 else 0) + (size - size / 2) ≤ n
within_half first size n true upto = omega arith
within_half first size n false upto = omega arith

-- a point in the middle tells which half the place is in
pub narrowed : (points : List Point) (at first size half : ℕ) (d : Point) (is : Bool) → AllPairs IsBefore points
    → IsWindow points at first size → half < size → half + half ≤ size → is ≡ ltb (get_or points (first + half) d).place at
    → IsWindow points at (first + (if is then half else 0)) (size - half)
narrowed points at first size half d true ordered old less twice is =
    let upto : first + size ≤ length points = old.within in
    let there : first + half < length points = omega arith in
    record {
      within = omega arith;
      before = λ k e below.
          grind (
            arith,
            places_rise points ordered k (first + half) e (omega arith) there,
            get_or_default points (first + half) e d there,
          );
      after = λ k e from low. old.after k e (omega arith) low;
    }
narrowed points at first size half d false ordered old less twice is =
    let upto : first + size ≤ length points = old.within in
    let there : first + half < length points = omega arith in
    record {
      within = omega arith;
      before = λ k e below. old.before k e (omega arith);
      after = λ k e from low.
          grind (
            arith,
            places_rise points ordered (first + half) k e (omega arith) low,
            get_or_default points (first + half) e d there,
          );
    }

-- points are found at or after a place from one index on alone
pub one_start : (points : List Point) (at i j : ℕ) → IsStart points at i → IsStart points at j → i ≡ j
one_start points at i j one other =
    let some : ¬ (i < j) = not_less_than i j one other in
    let more : ¬ (j < i) = not_less_than j i other one in
    grind (arith, some, more)
  where
    not_less_than : (i j : ℕ) → IsStart points at i → IsStart points at j → i < j → ⊥
    not_less_than i j one other less =
        let d : Point = record { place = 0; node = 0 } in
        let below : i < length points = omega (arith, less, other.within) in
        absurd (omega (arith, other.before i d less, one.after i d (omega arith) below))
