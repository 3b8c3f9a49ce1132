-- What follows where each pair of hashes of two keys of a map comes from no more keys than its share: keys of any form.
use Rattle.std.proofs.lemmas.Grind.{common_steps}
use Rattle.std.proofs.lemmas.Bool.Decides.{nat_tests}
use Rattle.hash_map_keys.proofs.Common.{ℕ, All, All-filter, All-head, AllPairs, AllPairs-filter, List, [], ap, arith, cond, count_by, div-add-mod, div-div-eq-div-mul, div-eq_of_lt, eq-eqb, eqb-true, eqb_tells, filter, filter_passes, get_or, have_hashes, length, length-filter, mod-lt, mul-add-lt, nat_eq, pow-add, pow_pos, subst, sum_by-same, sym, ◌%◌, ◌&&◌, ◌*◌, ◌+◌, ◌-◌, ◌/◌, ◌<◌, ◌^◌, ◌∙◌, ◌∷◌, ◌≡◌, ◌≢◌, ◌≤◌}
use Rattle.hash_map_keys.proofs.Counting.{few_in_all, having, just_its_share}
use Rattle.hash_map_keys.proofs.Odds.{same_by_places}

-- two numbers are a number of two places
as_places : (a b u v : ℕ) → b < 2 ^ 64 → v < 2 ^ 64 → nat_eq (a * 2 ^ 64 + b) (u * 2 ^ 64 + v) ≡ (nat_eq a u && nat_eq b v)
as_places a b u v b_in v_in = grind (arith, nat_tests, common_steps, eqb_tells, same_by_places, eq-eqb)

module _ {X Y : Type 0} (is : X → Type 0) (hash : X → Y → ℕ) (hash_in : (k : X) (z : Y) → hash k z < 2 ^ 64) (e : ℕ) (x y : Y)
    (even : (u v : ℕ) (keys : List X) → All is keys → AllPairs ◌≢◌ keys → All (λ k. (hash k x ≡ u) × (hash k y ≡ v)) keys
    → length keys ≤ 2 ^ e) where
  -- keys whose hashes stand in a relation, by a number that tells such hashes
  module _ (holds : ℕ → ℕ → Type 0) (g : ℕ → ℕ → ℕ) (n : ℕ) (below : (u v : ℕ) → u < 2 ^ 64 → v < 2 ^ 64 → g u v < n)
      (tells : (u v w z : ℕ) → v < 2 ^ 64 → z < 2 ^ 64 → holds u v → holds w z → g u v ≡ g w z → (u ≡ w) × (v ≡ z)) where
    mark : X → ℕ
    mark key = g (hash key x) (hash key y)

    with_one : (i : ℕ) (keys : List X) → All is keys → AllPairs ◌≢◌ keys → All (λ k. holds (hash k x) (hash k y)) keys
        → All (λ k. mark k ≡ i) keys → length keys ≤ 2 ^ e
    unfolding mark
    with_one i [] are differ have same = omega arith
    with_one i (key ∷ keys) are differ have same =
        let there = All-head (λ k. holds (hash k x) (hash k y)) key keys have in
        let first = All-head (λ k. mark k ≡ i) key keys same in
        even (hash key x) (hash key y) (key ∷ keys) are differ
        (λ j any h. let k = get_or (key ∷ keys) j any in
        tells (hash k x) (hash k y) (hash key x) (hash key y) (hash_in k y) (hash_in key y) (have j any h) there (same j any h ∙ sym first))

    related : (keys : List X) → All is keys → AllPairs ◌≢◌ keys → All (λ k. holds (hash k x) (hash k y)) keys → length keys ≤ n * 2 ^ e
    unfolding mark having
    related keys are differ have =
        few_in_all mark n (2 ^ e) keys (λ j any h. let k = get_or keys j any in below (hash k x) (hash k y) (hash_in k x) (hash_in k y))
        (λ i i_in.
        let test = having mark i in
        let kept = filter test keys in
        let few = with_one i kept (All-filter test is keys are) (AllPairs-filter ◌≢◌ test keys differ)
        (All-filter test (λ k. holds (hash k x) (hash k y)) keys have)
        (λ j any h. eqb-true (mark (get_or kept j any)) i (filter_passes test keys j any h)) in
        omega (arith, few, length-filter test keys))

  -- of all keys just its share
  module _ (u v : ℕ) (u_in : u < 2 ^ 64) (v_in : v < 2 ^ 64) (keys : List X) (are : All is keys) (differ : AllPairs ◌≢◌ keys) where
    both : X → ℕ
    both key = hash key x * 2 ^ 64 + hash key y

    pub exactly : length keys ≡ 2 ^ 128 * 2 ^ e → count_by (λ key. have_hashes x y u v (hash key)) keys ≡ 2 ^ e
    unfolding both having
    exactly all =
        let both_in = λ (k : X). mul-add-lt (hash k x) (2 ^ 64) (hash k y) (2 ^ 64) (hash_in k x) (hash_in k y) in
        sum_by-same (λ key. cond (have_hashes x y u v (hash key)) 1 0) (λ key. cond (having both (u * 2 ^ 64 + v) key) 1 0)
        (λ key. ap (λ b. cond b 1 0) (sym (as_places (hash key x) (hash key y) u v (hash_in key y) v_in))) keys
        ∙ just_its_share both (2 ^ 128) (2 ^ e) (u * 2 ^ 64 + v) keys (λ j any h. both_in (get_or keys j any))
        (λ i i_in.
        let test = having both i in
        let kept = filter test keys in
        let few = even (i / 2 ^ 64) (i % 2 ^ 64) kept (All-filter test is keys are) (AllPairs-filter ◌≢◌ test keys differ)
        (λ j any h.
        grind (arith, nat_tests, common_steps, eqb-true, both, filter_passes)) in
        omega (arith, few, length-filter test keys)) all (mul-add-lt u (2 ^ 64) v (2 ^ 64) u_in v_in)

  module _ (lower upper : ℕ) (within : lower + upper ≤ 64) where
    -- how many words have the same low and high bits
    abbrev m : ℕ
    m = 2 ^ (64 - lower - upper)

    number_is : m * 2 ^ 64 * 2 ^ e ≡ 2 ^ (e + 128 - lower - upper)
    number_is = grind (arith, nat_tests, common_steps, pow-add 2 (64 - lower - upper) 64, pow-add 2 (64 - lower - upper + 64) e)

    -- the bits between the low and the high ones
    abbrev middle : ℕ → ℕ
    middle v = v / 2 ^ lower % m

    middle_in : (v : ℕ) → middle v < m
    middle_in v = mod-lt (v / 2 ^ lower) (pow_pos (64 - lower - upper))

    high_is : (v : ℕ) → v / 2 ^ lower / m ≡ v / 2 ^ (64 - upper)
    high_is v = grind (arith, nat_tests, common_steps, div-div-eq-div-mul v (2 ^ lower) m, pow-add 2 lower (64 - lower - upper))

    Share : ℕ → ℕ → Type 0
    Share u v = (u % 2 ^ lower ≡ v % 2 ^ lower) × (u / 2 ^ (64 - upper) ≡ v / 2 ^ (64 - upper))

    same_both : (u v w z : ℕ) → v < 2 ^ 64 → z < 2 ^ 64 → Share u v → Share w z → u * m + middle v ≡ w * m + middle z → (u ≡ w) × (v ≡ z)
    unfolding Share
    same_both u v w z v_in z_in one two same =
        let places = same_by_places m u w (middle v) (middle z) (middle_in v) (middle_in z) same in
        grind (arith, nat_tests, common_steps, high_is, div-add-mod)

    pub share_both : (keys : List X) → All is keys → AllPairs ◌≢◌ keys
        → All (λ k. (hash k x % 2 ^ lower ≡ hash k y % 2 ^ lower) × (hash k x / 2 ^ (64 - upper) ≡ hash k y / 2 ^ (64 - upper))) keys
        → length keys ≤ 2 ^ (e + 128 - lower - upper)
    unfolding Share
    share_both keys are differ have =
        let word : (u v : ℕ) → u < 2 ^ 64 → v < 2 ^ 64 → u * m + middle v < m * 2 ^ 64 =
        λ u v u_in v_in. mul-add-lt u m (middle v) (2 ^ 64) u_in (middle_in v) in
        subst (λ k. length keys ≤ k) number_is (related Share (λ u v. u * m + middle v) (m * 2 ^ 64) word same_both keys are differ have)

  pub share_low : (bits : ℕ) → bits ≤ 64 → (keys : List X) → All is keys → AllPairs ◌≢◌ keys
      → All (λ k. hash k x % 2 ^ bits ≡ hash k y % 2 ^ bits) keys → length keys ≤ 2 ^ (e + 128 - bits)
  share_low bits within keys are differ have =
      subst (λ k. length keys ≤ 2 ^ k) (let l : e + 128 - bits - 0 ≡ e + 128 - bits = omega arith in l)
      (share_both bits 0 (omega (arith, within)) keys are differ
      (λ j any h. let k = get_or keys j any in (have j any h, div-eq_of_lt (hash_in k x) ∙ sym (div-eq_of_lt (hash_in k y)))))
