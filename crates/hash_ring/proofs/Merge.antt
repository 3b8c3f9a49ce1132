-- Two lists of points in order become one, from the last point to the first.
use Rattle.hash_ring.proofs.Common.{ℕ, suc, ◌≡◌, ◌<◌, ◌≤◌, ◌+◌, ◌-◌, ◌++◌, List, [], ◌∷◌, length, get_or, set, take, drop, map, arith, sym, ◌∙◌, subst, ⊎_elim, cases_lt, drop_more, drop-set, get_or_default, get_or-take, take-append-drop, take-set-le, take-take, common_steps, All-append, All-cons, AllPairs-cons, IsPermutation-append_comm, IsPermutation-append_left, IsPermutation-append_right, IsPermutation-cons, IsPermutation-trans, Point, IsBefore, opened_up, All, AllPairs, IsPermutation, append_assoc, length-take-le, rules, nat_tests}
use Rattle.hash_ring.proofs.PointLemmas.{before_both}

AllPairs-append : (xs ys : List Point) → AllPairs IsBefore xs → AllPairs IsBefore ys → All (λ x. All (IsBefore x) ys) xs
    → AllPairs IsBefore (xs ++ ys)
AllPairs-append [] ys px py across = py
AllPairs-append (x ∷ xs) ys px py across =
    AllPairs-cons IsBefore x (xs ++ ys)
    (All-append (IsBefore x) xs ys (λ k d l. px 0 (suc k) d (omega arith) (omega arith)) (across 0 x (omega arith)))
    (AllPairs-append xs ys (λ i j d less l. px (suc i) (suc j) d (omega arith) (omega arith)) py (λ k d l. across (suc k) d (omega arith)))

-- ---- the merge so far
-- of two lists in order the points from two indices on are merged, and those below are before all of them
pub record IsMerged (xs ys done : List Point) (left right : ℕ) : Type 0 where
  pub left_within : left ≤ length xs
  pub right_within : right ≤ length ys
  pub all : IsPermutation (drop left xs ++ drop right ys) done
  pub ordered : AllPairs IsBefore done
  pub left_before : (k : ℕ) (d : Point) → k < left → All (IsBefore (get_or xs k d)) done
  pub right_before : (k : ℕ) (d : Point) → k < right → All (IsBefore (get_or ys k d)) done

turned : (xs ys done : List Point) (left right : ℕ) → IsMerged xs ys done left right → IsMerged ys xs done right left
turned xs ys done left right so_far = search (rules, IsPermutation-trans, IsPermutation-append_comm)

-- the last point of the first list goes in front of the merged ones, where that of the second is before it
pub left_more : (xs ys done : List Point) (left next right : ℕ) (y : Point) → AllPairs IsBefore xs → AllPairs IsBefore ys
    → IsMerged xs ys done next right → left + 1 ≡ next → y ≡ get_or xs left y
    → ((d : Point) → 0 < right → IsBefore (get_or ys (right - 1) d) y)
    → IsMerged xs ys (y ∷ done) left right
left_more xs ys done left next right y xs_rise ys_rise so_far one is later =
    let low : left < length xs = omega (arith, so_far.left_within) in
    let high : right ≤ length ys = so_far.right_within in
    let its : All (IsBefore y) done =
    subst (λ (p : Point). All (IsBefore p) done) (sym is) (so_far.left_before left y (omega arith)) in
    let split : drop left xs ≡ y ∷ drop next xs = drop_more xs left y low ∙ (λ i. sym is i ∷ drop (one i) xs) in
    record {
      left_within = omega arith;
      right_within = high;
      all = subst (λ ps. IsPermutation (ps ++ drop right ys) (y ∷ done)) (sym split)
          (IsPermutation-cons y (drop next xs ++ drop right ys) done so_far.all);
      ordered = AllPairs-cons IsBefore y done its so_far.ordered;
      left_before = λ k d l. All-cons (IsBefore (get_or xs k d)) y done
          (subst (IsBefore (get_or xs k d)) (get_or_default xs left d y low ∙ sym is) (xs_rise k left d l low))
          (so_far.left_before k d (omega arith));
      right_before = λ k d l. All-cons (IsBefore (get_or ys k d)) y done
          (⊎_elim
          (λ (less : k < right - 1). before_both _ _ _ (ys_rise k (right - 1) d less (omega arith)) (later d (omega arith)))
          (λ (last : right - 1 ≤ k). let e : right - 1 ≡ k = omega arith in
          subst (λ (i : ℕ). IsBefore (get_or ys i d) y) e (later d (omega arith)))
          (cases_lt k (right - 1)))
          (so_far.right_before k d l);
    }

-- and that of the second list
pub right_more : (xs ys done : List Point) (left right next : ℕ) (y : Point) → AllPairs IsBefore xs → AllPairs IsBefore ys
    → IsMerged xs ys done left next → right + 1 ≡ next → y ≡ get_or ys right y
    → ((d : Point) → 0 < left → IsBefore (get_or xs (left - 1) d) y)
    → IsMerged xs ys (y ∷ done) left right
right_more xs ys done left right next y xs_rise ys_rise so_far one is later = search (rules, turned, left_more)

-- where the first list is used up, the rest of the second one goes in front
module _ (xs ys points : List Point) (left right : ℕ)
    (so_far : IsMerged xs ys (drop (left + right) points) left right) (none : left ≤ 0) where
  used_up : IsMerged xs ys (drop right points) 0 right
  used_up = grind (arith, nat_tests, common_steps)

  pub all_merged : IsPermutation (xs ++ ys) (take right ys ++ drop right points)
  all_merged =
      let front = take right ys in
      let rest = drop right ys in
      let whole : xs ++ ys ≡ (xs ++ front) ++ rest = grind (arith, append_assoc, take-append-drop right ys) in
      rw whole (IsPermutation-trans ((xs ++ front) ++ rest) ((front ++ xs) ++ rest) (front ++ drop right points)
      (IsPermutation-append_left rest (xs ++ front) (front ++ xs) (IsPermutation-append_comm xs front))
      (rw append_assoc (IsPermutation-append_right front (xs ++ rest) (drop right points) used_up.all)))

  pub all_in_order : AllPairs IsBefore ys → AllPairs IsBefore (take right ys ++ drop right points)
  all_in_order ys_rise =
      let front = take right ys in
      let long : length front ≡ right = length-take-le right ys so_far.right_within in
      AllPairs-append front (drop right points)
      (λ i j d less l.
      let high : j < right = omega (arith, long) in
      rw (get_or-take right ys i d (omega arith), get_or-take right ys j d high)
      (ys_rise i j d less (omega (arith, so_far.right_within))))
      used_up.ordered
      (λ k d l. rw (get_or-take right ys k d (omega (arith, long))) (used_up.right_before k d (omega (arith, long))))

-- ---- in one array, whose front has those points of the first list that are not merged yet
pub placed : (points : List Point) (at next : ℕ) (y : Point) → at + 1 ≡ next → at < length points
    → drop at (set points at y) ≡ y ∷ drop next points
placed points at next y one low = grind (arith, common_steps, drop-set)

pub front_kept : (old points : List Point) (left less at : ℕ) (y : Point) → less ≤ left → less ≤ at → take left points ≡ take left old
    → take less (set points at y) ≡ take less old
front_kept old points left less at y upto before front =
    grind (
      arith,
      front,
      take-set-le less points at y before,
      take-take less left points upto,
      take-take less left old upto,
    )

-- the last one of them
pub last_other : (come n left : ℕ) (old points : List Point) (d e : Point) → 0 < left → left ≤ n → n ≤ length old
    → take left points ≡ take left old
    → get_or (map (opened_up come) (take n old)) (left - 1) e ≡ opened_up come (get_or points (left - 1) d)
last_other come n left old points d e some within long front = grind (arith, common_steps, take-take, get_or-take)
