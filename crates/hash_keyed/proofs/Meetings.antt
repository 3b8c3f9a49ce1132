-- Over all keys together, few pairs meet, where two do at few keys.
use Rattle.hash_keyed.proofs.Common.{ℕ, suc, ◌≡◌, ◌≢◌, ◌+◌, ◌-◌, ◌*◌, ◌/◌, ◌%◌, ◌^◌, ◌<◌, ◌≤◌, max, cond, Bool, List, [], ◌∷◌, length, get_or, filter, All, AllPairs, le_refl, arith, count_by, sum_by, mul-le, All-filter, All-tail, AllPairs-filter, filter_passes, length-filter, sum_by-cons, IsText, prime61, word_count, AreKeys, poly61, share_place, eqb, eqb-true}
use Rattle.hashers.specs.Counts.{meetings}
use Rattle.hashers.proofs.SumLemmas.{sum_by-add, sum_by-same, sum_by-none}
use Rattle.hash_keyed.proofs.Buckets.{few_keys_share_bits}
use Rattle.hash_keyed.proofs.Collisions.{pairs, pairs-is}

abbrev share : {Y : Type 0} → ℕ → (Y → ℕ) → Y → Y → Bool
share bits hash x y = eqb (hash x % 2 ^ bits) (hash y % 2 ^ bits)

module _ {X Y : Type 0} (is : X → Type 0) (hash : X → Y → ℕ) (number : Y → Type 0) (bits bound : ℕ)
    (few : (x y : Y) → number x → number y → x ≢ y → (keys : List X) → All is keys → AllPairs ◌≢◌ keys
    → All (λ k. hash k x % 2 ^ bits ≡ hash k y % 2 ^ bits) keys → length keys ≤ bound)
    (keys : List X) (are : All is keys) (differ : AllPairs ◌≢◌ keys) where
  -- the keys at which two of them meet
  few_meet : (x y : Y) → number x → number y → x ≢ y → sum_by (λ key. cond (share bits (hash key) x y) 1 0) keys ≤ bound
  few_meet x y x_is y_is apart =
      let test = λ (key : X). share bits (hash key) x y in
      let kept = filter test keys in
      let small = few x y x_is y_is apart kept (All-filter test is keys are) (AllPairs-filter ◌≢◌ test keys differ)
      (λ i any h. let key = get_or kept i any in
      eqb-true (hash key x % 2 ^ bits) (hash key y % 2 ^ bits) (filter_passes test keys i any h)) in
      omega (arith, small, length-filter test keys)

  -- and one with each of others
  few_meet_one : (x : Y) (numbers : List Y) → number x → All number numbers → All (λ y. x ≢ y) numbers
      → sum_by (λ key. count_by (share bits (hash key) x) numbers) keys ≤ length numbers * bound
  few_meet_one x [] x_is are_numbers apart = omega (arith, sum_by-none keys)
  few_meet_one x (y ∷ numbers) x_is are_numbers apart =
      omega (
        arith,
        few_meet x y x_is (are_numbers 0 y (omega arith)) (apart 0 y (omega arith)),
        few_meet_one x numbers x_is (All-tail number y numbers are_numbers) (All-tail (λ u. x ≢ u) y numbers apart),
        sum_by-same (λ key. count_by (share bits (hash key) x) (y ∷ numbers))
            (λ key. cond (share bits (hash key) x y) 1 0 + count_by (share bits (hash key) x) numbers)
            (λ key. sum_by-cons (λ u. cond (share bits (hash key) x u) 1 0) y numbers) keys,
        sum_by-add (λ key. cond (share bits (hash key) x y) 1 0) (λ key. count_by (share bits (hash key) x) numbers) keys,
      )

  few_pairs_of : (numbers : List Y) → All number numbers → AllPairs ◌≢◌ numbers
      → sum_by (λ key. meetings (share bits (hash key)) numbers) keys ≤ pairs (length numbers) * bound
  unfolding meetings pairs
  few_pairs_of [] are_numbers apart = omega (arith, sum_by-none keys)
  few_pairs_of (x ∷ numbers) are_numbers apart =
      omega (
        arith,
        few_meet_one x numbers (are_numbers 0 x (omega arith)) (All-tail number x numbers are_numbers)
            (λ k d h. apart 0 (suc k) d (omega arith) (omega arith)),
        few_pairs_of numbers (All-tail number x numbers are_numbers) (λ i j d i_in j_in. apart (suc i) (suc j) d (omega arith) (omega arith)),
        sum_by-add (λ key. count_by (share bits (hash key) x) numbers) (λ key. meetings (share bits (hash key)) numbers) keys,
      )

  pub few_meetings_of : (numbers : List Y) → All number numbers → AllPairs ◌≢◌ numbers
      → sum_by (λ key. meetings (share bits (hash key)) numbers) keys ≤ length numbers * (length numbers - 1) / 2 * bound
  few_meetings_of numbers are_numbers apart = rw (← (pairs-is (length numbers))) (few_pairs_of numbers are_numbers apart)

pub few_meetings_of_texts : (texts : List (List ℕ)) (most bits : ℕ) (keys : List ℕ) → All IsText texts → AllPairs ◌≢◌ texts
    → All (λ text. word_count text ≤ most) texts → bits ≤ 61 → AreKeys prime61 keys
    → sum_by (λ key. meetings (share_place bits key) texts) keys
    ≤ length texts * (length texts - 1) / 2 * ((2 * (prime61 / 2 ^ bits) + 1) * (most + 1))
few_meetings_of_texts texts most bits keys are_texts differ few within are =
    let q = 2 * (prime61 / 2 ^ bits) + 1 in
    few_meetings_of (λ key. key < prime61) poly61 (λ s. IsText s × (word_count s ≤ most)) bits (q * (most + 1))
    (λ s t s_is t_is apart some below differs have.
    let fewer = few_keys_share_bits s t bits some s_is.0 t_is.0 apart within record { below = below; differ = differs } have in
    omega (arith, fewer, mul-le q (max (word_count s) (word_count t) + 1) q (most + 1) (le_refl q) (omega (arith, s_is.1, t_is.1))))
    keys are.below are.differ texts (λ i any h. (are_texts i any h, few i any h)) differ
