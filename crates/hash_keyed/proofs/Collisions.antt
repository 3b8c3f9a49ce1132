-- Under few keys two different texts have one hash.
use Rattle.std.proofs.Common.{rules}
use Rattle.hash_keyed.proofs.Common.{ℕ, zero, suc, ◌≡◌, ◌≢◌, ◌+◌, ◌-◌, ◌*◌, ◌/◌, ◌%◌, ◌^◌, ◌<◌, ◌≤◌, max, Bool, true, false, not, ◌||◌, eqb, List, [], ◌∷◌, length, get_or, reverse, filter, fold, All, AllPairs, refl, sym, ap, ◌∙◌, inl, inr, ⊎_elim, arith, add-zero, mod-lt, lt_trans, lit<, lit≤, mod-add-mod, mod-mod, cases_lt, eq-eqb, or_cases, or_left, or_right, not-true, both_ways, false≢true, length-reverse, reverse-reverse, All-weaker, All-tail, All-filter, filter_passes, length-filter_both, AllPairs-filter, IsText, prime61, HasNoZeroDivisors, words, word_count, poly_step, poly_hash, AreKeys, as_word, poly61, SomeTwoMeet, eqb-true, length-append, IsPermutation-reverse, All-permutation}
use Rattle.hash_keyed.proofs.Mersenne.{no_zero_product}
use Rattle.hash_keyed.proofs.Polynomials.{value, IsRoot, IsMultiple, added, value-added, length-added, monic, monic_same, all_roots, mod_step, mod_difference, horner}
use Rattle.hash_keyed.proofs.Encoding.{words-same, words-below, length-words}

-- the coefficients of a text's polynomial, the constant first
abbrev coefficients : ℕ → List ℕ → List ℕ
coefficients c text = c ∷ monic (reverse (words text))

length-coefficients : (c : ℕ) (text : List ℕ) → length (coefficients c text) ≡ word_count text + 2
length-coefficients c text =
    omega (arith, length-append (reverse (words text)) (1 ∷ []), length-reverse (words text), length-words text)

-- m is p - 1
module _ (m : ℕ) where
  value_of_hash : (key : ℕ) (text : List ℕ) → poly_hash (suc m) key text ≡ value key (coefficients 0 text) % suc m
  value_of_hash key text =
      let ws = words text in
      let state = fold (poly_step (suc m) key) 1 ws in
      let one : 1 ≡ 1 + key * 0 = omega arith in
      ap (λ n. n % suc m) (sym (add-zero (state * key)))
      ∙ mod_step (suc m) key state (value key (monic (reverse ws))) 0 (horner (suc m) key 1 (1 ∷ []) ws (ap (λ n. n % suc m) one))

  at_difference : (key c : ℕ) (s t : List ℕ) → poly_hash (suc m) key s ≡ (poly_hash (suc m) key t + c) % suc m
      → IsRoot (suc m) (added m (coefficients 0 s) (coefficients c t)) key
  at_difference key c s t same =
      let a = value key (coefficients 0 s) in
      let b = value key (coefficients 0 t) in
      let d = value key (coefficients c t) in
      let e : b + c ≡ d = omega arith in
      let both : a % suc m ≡ d % suc m =
      sym (value_of_hash key s) ∙ same ∙ ap (λ n. (n + c) % suc m) (value_of_hash key t) ∙ mod-add-mod b (suc m) c
      ∙ ap (λ n. n % suc m) e in
      ap (λ n. n % suc m) (value-added key m (coefficients 0 s) (coefficients c t)) ∙ mod_difference m a d both

  length-difference : (c : ℕ) (s t : List ℕ) → length (added m (coefficients 0 s) (coefficients c t)) ≡ max (word_count s) (word_count t) + 2
  length-difference c s t =
      omega (arith, length-added m (coefficients 0 s) (coefficients c t), length-coefficients 0 s, length-coefficients c t)

  words_in : 2 ^ 56 ≤ suc m → (text : List ℕ) → IsText text → All (λ w. w < suc m) (reverse (words text))
  words_in wide text is =
      All-permutation (λ w. w < suc m) (words text) (reverse (words text)) (IsPermutation-reverse (words text))
      (All-weaker (λ w. w < 2 ^ 56) (λ w. w < suc m) (λ w below. omega arith) (words text) (words-below text is))

  module _ (no_divisors : HasNoZeroDivisors (suc m)) (wide : 2 ^ 56 ≤ suc m) where
    -- texts whose polynomials differ by multiples of p alone
    same_from_difference : (c : ℕ) (s t : List ℕ) → IsText s → IsText t
        → All (IsMultiple (suc m)) (added m (coefficients 0 s) (coefficients c t)) → s ≡ t
    same_from_difference c s t s_is t_is none =
        let back : reverse (words s) ≡ reverse (words t) =
        monic_same m (omega arith) (reverse (words s)) (reverse (words t)) (words_in wide s s_is) (words_in wide t t_is)
        (All-tail (IsMultiple (suc m)) (0 + m * c) (added m (monic (reverse (words s))) (monic (reverse (words t)))) none) in
        words-same s t s_is t_is (sym (reverse-reverse (words s)) ∙ ap reverse back ∙ reverse-reverse (words t))

    -- two texts, a difference of their hashes, and the keys under which they have it
    few_keys : (s t : List ℕ) (c : ℕ) (keys : List ℕ) → IsText s → IsText t → s ≢ t → AreKeys (suc m) keys
        → All (λ key. poly_hash (suc m) key s ≡ (poly_hash (suc m) key t + c) % suc m) keys
        → length keys ≤ max (word_count s) (word_count t) + 1
    few_keys s t c keys s_is t_is differ are meet = elim (cases_lt (max (word_count s) (word_count t) + 1) (length keys)) [
      | inl more ↦
          let d = added m (coefficients 0 s) (coefficients c t) in
          let none = all_roots (suc m) no_divisors keys d are.below are.differ (λ k e h. at_difference (get_or keys k e) c s t (meet k e h))
          (omega (arith, length-difference c s t)) in
          absurd (differ (same_from_difference c s t s_is t_is none))
      | inr few ↦ few
    ]

-- ---- a set of texts

-- a test that few keys pass
unfoldable pub Few : ℕ → (ℕ → Bool) → ℕ → Type 0
Few p test n = (keys : List ℕ) → AreKeys p keys → All (λ key. test key ≡ true) keys → length keys ≤ n

pub few_none : (p : ℕ) → Few p (λ key. false) 0
unfolding Few
few_none p [] are pass = omega arith
few_none p (key ∷ keys) are pass = absurd (false≢true (pass 0 0 (omega arith)))

pub filtered_keys : (p : ℕ) (test : ℕ → Bool) (keys : List ℕ) → AreKeys p keys → AreKeys p (filter test keys)
filtered_keys p test keys are = record {
  below = All-filter test (λ key. key < p) keys are.below;
  differ = AllPairs-filter ◌≢◌ test keys are.differ;
}

pub few_or : (p : ℕ) (f g : ℕ → Bool) (a b : ℕ) → Few p f a → Few p g b → Few p (λ key. f key || g key) (a + b)
unfolding Few
few_or p f g a b few_f few_g keys are either =
    let other = λ (key : ℕ). not (f key) in
    let yes = few_f (filter f keys) (filtered_keys p f keys are) (filter_passes f keys) in
    let no = few_g (filter other keys) (filtered_keys p other keys are)
    (λ k d h. ⊎_elim
    (λ first. absurd (both_ways (f (get_or (filter other keys) k d)) (not-true (f (get_or (filter other keys) k d)) (filter_passes other keys k d h)) first))
    (λ second. second)
    (or_cases (f (get_or (filter other keys) k d)) (g (get_or (filter other keys) k d))
    (All-filter other (λ key. (f key || g key) ≡ true) keys either k d h))) in
    omega (arith, length-filter_both f other (λ key. refl) keys)

pub few_more : (p : ℕ) (test : ℕ → Bool) (a b : ℕ) → a ≤ b → Few p test a → Few p test b
unfolding Few
few_more p test a b less few keys are pass = omega (arith, few keys are pass)

-- the text meets one of the texts
meets_some : ℕ → List ℕ → List (List ℕ) → ℕ → Bool
meets_some p s [] key = false
meets_some p s (t ∷ texts) key = eqb (poly_hash p key s) (poly_hash p key t) || meets_some p s texts key

-- some text meets a later one
some_meet : ℕ → List (List ℕ) → ℕ → Bool
some_meet p [] key = false
some_meet p (t ∷ texts) key = meets_some p t texts key || some_meet p texts key

-- how many pairs there are of n
unfoldable pub pairs : ℕ → ℕ
pairs zero = 0
pairs (suc n) = n + pairs n

pairs_twice : (n : ℕ) → 2 * pairs n ≡ n * (n - 1)
unfolding pairs
pairs_twice zero = omega arith
pairs_twice (suc zero) = omega arith
pairs_twice (suc (suc n)) =
    let less : suc n - 1 ≡ n = omega arith in
    let less2 : suc (suc n) - 1 ≡ suc n = omega arith in
    rw less2 (omega (arith, rw less at (pairs_twice (suc n))))

pub pairs-is : (n : ℕ) → pairs n ≡ n * (n - 1) / 2
pairs-is n = let e = pairs_twice n in omega arith

meets_at : (p key : ℕ) (s : List ℕ) (texts : List (List ℕ)) (j : ℕ) → j < length texts
    → poly_hash p key s ≡ poly_hash p key (get_or texts j []) → meets_some p s texts key ≡ true
unfolding meets_some
meets_at p key s [] j below same = absurd (omega arith)
meets_at p key s (t ∷ texts) zero below same =
    or_left (eqb (poly_hash p key s) (poly_hash p key t)) (meets_some p s texts key) (eq-eqb (poly_hash p key s) (poly_hash p key t) same)
meets_at p key s (t ∷ texts) (suc j) below same =
    or_right (eqb (poly_hash p key s) (poly_hash p key t)) (meets_some p s texts key) (meets_at p key s texts j (omega arith) same)

some_at : (p key : ℕ) (texts : List (List ℕ)) (i j : ℕ) → i < j → j < length texts
    → poly_hash p key (get_or texts i []) ≡ poly_hash p key (get_or texts j []) → some_meet p texts key ≡ true
unfolding some_meet
some_at p key [] i j before below same = absurd (omega arith)
some_at p key (t ∷ texts) i zero before below same = absurd (omega arith)
some_at p key (t ∷ texts) zero (suc j) before below same =
    or_left (meets_some p t texts key) (some_meet p texts key) (meets_at p key t texts j (omega arith) same)
some_at p key (t ∷ texts) (suc i) (suc j) before below same =
    or_right (meets_some p t texts key) (some_meet p texts key) (some_at p key texts i j (omega arith) (omega arith) same)

-- equal values differ by 0
same_mod : (m : ℕ) (s t : List ℕ) (key : ℕ) → poly_hash (suc m) key s ≡ poly_hash (suc m) key t
    → poly_hash (suc m) key s ≡ (poly_hash (suc m) key t + 0) % suc m
same_mod m s t key same = search (rules, mod-mod, add-zero)

module _ (m : ℕ) (no_divisors : HasNoZeroDivisors (suc m)) (wide : 2 ^ 56 ≤ suc m) (n : ℕ) where
  few_meet_one : (s t : List ℕ) → IsText s → IsText t → s ≢ t → word_count s ≤ n → word_count t ≤ n
      → Few (suc m) (λ key. eqb (poly_hash (suc m) key s) (poly_hash (suc m) key t)) (n + 1)
  unfolding Few
  few_meet_one s t s_is t_is differ s_few t_few keys are pass =
      let few = few_keys m no_divisors wide s t 0 keys s_is t_is differ are
      (λ k d h. same_mod m s t (get_or keys k d) (eqb-true (poly_hash (suc m) (get_or keys k d) s) (poly_hash (suc m) (get_or keys k d) t) (pass k d h))) in
      omega arith

  few_meet_some : (s : List ℕ) (texts : List (List ℕ)) → IsText s → word_count s ≤ n → All IsText texts → All (λ t. s ≢ t) texts
      → All (λ t. word_count t ≤ n) texts → Few (suc m) (meets_some (suc m) s texts) (length texts * (n + 1))
  unfolding meets_some
  few_meet_some s [] s_is s_few are differ few = few_more (suc m) (λ key. false) 0 (0 * (n + 1)) (omega arith) (few_none (suc m))
  few_meet_some s (t ∷ texts) s_is s_few are differ few =
      few_more (suc m) (meets_some (suc m) s (t ∷ texts)) ((n + 1) + length texts * (n + 1)) (suc (length texts) * (n + 1)) (omega arith)
      (few_or (suc m) (λ key. eqb (poly_hash (suc m) key s) (poly_hash (suc m) key t)) (meets_some (suc m) s texts) (n + 1) (length texts * (n + 1))
      (few_meet_one s t s_is (are 0 [] (omega arith)) (differ 0 [] (omega arith)) s_few (few 0 [] (omega arith)))
      (few_meet_some s texts s_is s_few (All-tail IsText t texts are) (All-tail (λ u. s ≢ u) t texts differ)
      (All-tail (λ u. word_count u ≤ n) t texts few)))

  few_some_meet : (texts : List (List ℕ)) → All IsText texts → AllPairs ◌≢◌ texts → All (λ t. word_count t ≤ n) texts
      → Few (suc m) (some_meet (suc m) texts) (pairs (length texts) * (n + 1))
  unfolding some_meet pairs
  few_some_meet [] are differ few = few_more (suc m) (λ key. false) 0 (0 * (n + 1)) (omega arith) (few_none (suc m))
  few_some_meet (t ∷ texts) are differ few =
      few_more (suc m) (some_meet (suc m) (t ∷ texts)) (length texts * (n + 1) + pairs (length texts) * (n + 1))
      ((length texts + pairs (length texts)) * (n + 1)) (omega arith)
      (few_or (suc m) (meets_some (suc m) t texts) (some_meet (suc m) texts) (length texts * (n + 1)) (pairs (length texts) * (n + 1))
      (few_meet_some t texts (are 0 [] (omega arith)) (few 0 [] (omega arith)) (All-tail IsText t texts are)
      (λ k d h. differ 0 (suc k) d (omega arith) (omega arith)) (All-tail (λ u. word_count u ≤ n) t texts few))
      (few_some_meet texts (All-tail IsText t texts are) (λ i j d i_in j_in. differ (suc i) (suc j) d (omega arith) (omega arith))
      (All-tail (λ u. word_count u ≤ n) t texts few)))

  few_value_keys : (texts : List (List ℕ)) (keys : List ℕ) → All IsText texts → AllPairs ◌≢◌ texts → All (λ t. word_count t ≤ n) texts
      → AreKeys (suc m) keys → All (λ key. some_meet (suc m) texts key ≡ true) keys
      → length keys ≤ length texts * (length texts - 1) / 2 * (n + 1)
  unfolding Few
  few_value_keys texts keys are differ few keys_are meet =
      let bound = few_some_meet texts are differ few keys keys_are meet in
      rw (← (pairs-is (length texts))) bound

-- ---- at the prime 2^61 - 1

large : 2 ^ 56 ≤ prime61
large = lit≤ tt

pub value-lt : (key : ℕ) (text : List ℕ) → poly_hash prime61 key text < 2 ^ 61
value-lt key text = lt_trans (mod-lt (fold (poly_step prime61 key) 1 (words text) * key) (lit< tt)) (lit< tt)

-- equal answers are answers of equal values
as_word-same : (a b : ℕ) → a < 2 ^ 61 → b < 2 ^ 61 → as_word a ≡ as_word b → a ≡ b
as_word-same a b a_in b_in same = omega arith

value_same : (key : ℕ) (s t : List ℕ) → poly61 key s ≡ poly61 key t → poly_hash prime61 key s ≡ poly_hash prime61 key t
value_same key s t same = as_word-same (poly_hash prime61 key s) (poly_hash prime61 key t) (value-lt key s) (value-lt key t) same

-- two texts, a difference of their values, and the keys under which they have it
pub few_keys_differ : (s t : List ℕ) (c : ℕ) (keys : List ℕ) → IsText s → IsText t → s ≢ t → AreKeys prime61 keys
    → All (λ key. poly_hash prime61 key s ≡ (poly_hash prime61 key t + c) % prime61) keys
    → length keys ≤ max (word_count s) (word_count t) + 1
few_keys_differ = few_keys 2305843009213693950 no_zero_product large

-- two texts, and the keys under which they have one hash
pub few_keys_meet : (s t : List ℕ) (keys : List ℕ) → IsText s → IsText t → s ≢ t → AreKeys prime61 keys
    → All (λ key. poly61 key s ≡ poly61 key t) keys
    → length keys ≤ max (word_count s) (word_count t) + 1
few_keys_meet s t keys s_is t_is differ are meet =
    few_keys_differ s t 0 keys s_is t_is differ are
    (λ k d h. same_mod 2305843009213693950 s t (get_or keys k d) (value_same (get_or keys k d) s t (meet k d h)))

-- a list of different texts of at most n words each, and the keys under which some two of them have one hash
pub few_keys_of_set : (texts : List (List ℕ)) (most : ℕ) (keys : List ℕ) → All IsText texts → AllPairs ◌≢◌ texts
    → All (λ text. word_count text ≤ most) texts → AreKeys prime61 keys → All (SomeTwoMeet texts) keys
    → length keys ≤ length texts * (length texts - 1) / 2 * (most + 1)
few_keys_of_set texts most keys are differ few keys_are meet =
    few_value_keys 2305843009213693950 no_zero_product large most texts keys are differ few keys_are
    (λ k d h. let two = meet k d h in
    some_at prime61 (get_or keys k d) texts two.0 two.1 two.2 two.3 (value_same (get_or keys k d) (get_or texts two.0 []) (get_or texts two.1 []) two.4))
