-- Lists of words under lists of multipliers: what differs is a word at some place.
use Rattle.std.proofs.lemmas.Grind.{common_steps}
use Rattle.std.proofs.lemmas.Bool.Decides.{nat_tests}
use Rattle.hash_map_keys.proofs.Common.{ℕ, All, All-cons, All-head, All-nil, All-tail, AllPairs, AreWords, List, [], ap, ap₂, arith, dot, eqb_tells, get_or, inl, inr, length, lit<, mod-lt, mul-add-lt, pow-add, refl, subst, suc, sym, words_hash, zero, ◌%◌, ◌*◌, ◌+◌, ◌-◌, ◌/◌, ◌<◌, ◌^◌, ◌∙◌, ◌∷◌, ◌≡◌, ◌≢◌, ◌≤◌}
use Rattle.hash_map_keys.proofs.Counting.{count}
use Rattle.hash_map_keys.proofs.Evenness.{even, same_addend}
use Rattle.hash_map_keys.proofs.Odds.{same_by_places}

-- ---- a list at a place, and without it

pub at : ℕ → List ℕ → ℕ
at j [] = 0
at zero (a ∷ xs) = a
at (suc j) (a ∷ xs) = at j xs

pub without : ℕ → List ℕ → List ℕ
without j [] = []
without zero (a ∷ xs) = xs
without (suc j) (a ∷ xs) = a ∷ without j xs

dot-nil : (xs : List ℕ) → dot xs [] ≡ 0
unfolding dot
dot-nil [] = refl
dot-nil (a ∷ xs) = refl

pub dot-split : (j : ℕ) (xs ws : List ℕ) → dot xs ws ≡ at j xs * at j ws + dot (without j xs) (without j ws)
unfolding dot at without
dot-split j [] ws = omega arith
dot-split zero (a ∷ xs) [] = omega (arith, dot-nil xs)
dot-split (suc j) (a ∷ xs) [] = omega arith
dot-split zero (a ∷ xs) (w ∷ ws) = omega arith
dot-split (suc j) (a ∷ xs) (w ∷ ws) = omega (arith, dot-split j xs ws)

pub length-without : (j : ℕ) (xs : List ℕ) → j < length xs → suc (length (without j xs)) ≡ length xs
unfolding without
length-without j [] within = absurd (omega (arith, within))
length-without zero (a ∷ xs) within = omega arith
length-without (suc j) (a ∷ xs) within = omega (arith, length-without j xs (omega (arith, within)))

module _ (P : ℕ → Type 0) where
  pub All-without : (j : ℕ) (xs : List ℕ) → All P xs → All P (without j xs)
  unfolding without
  All-without j [] are = All-nil P
  All-without zero (a ∷ xs) are = All-tail P a xs are
  All-without (suc j) (a ∷ xs) are = All-cons P a (without j xs) (All-head P a xs are) (All-without j xs (All-tail P a xs are))

  pub at_holds : (j : ℕ) (xs : List ℕ) → j < length xs → All P xs → P (at j xs)
  unfolding at
  at_holds j [] within are = absurd (omega (arith, within))
  at_holds zero (a ∷ xs) within are = All-head P a xs are
  at_holds (suc j) (a ∷ xs) within are = at_holds j xs (omega (arith, within)) (All-tail P a xs are)

first_of : List ℕ → ℕ
first_of [] = 0
first_of (a ∷ xs) = a

rest_of : List ℕ → List ℕ
rest_of [] = []
rest_of (a ∷ xs) = xs

pub put_back : (j : ℕ) (xs ys : List ℕ) → length xs ≡ length ys → at j xs ≡ at j ys → without j xs ≡ without j ys → xs ≡ ys
unfolding at without first_of rest_of
put_back j [] [] long one others = refl
put_back j [] (b ∷ ys) long one others = absurd (omega (arith, long))
put_back j (a ∷ xs) [] long one others = absurd (omega (arith, long))
put_back zero (a ∷ xs) (b ∷ ys) long one others = ap₂ (λ x l. x ∷ l) one others
put_back (suc j) (a ∷ xs) (b ∷ ys) long one others =
    ap₂ (λ x l. x ∷ l) (ap first_of others) (put_back j xs ys (omega (arith, long)) one (ap rest_of others))

-- different lists of one length differ at a place
pub place_of_difference : (xs ys : List ℕ) → length xs ≡ length ys → xs ≢ ys → (j : ℕ) × (j < length xs) × (at j xs ≢ at j ys)
unfolding at
place_of_difference [] [] long differ = absurd (differ refl)
place_of_difference [] (b ∷ ys) long differ = absurd (omega (arith, long))
place_of_difference (a ∷ xs) [] long differ = absurd (omega (arith, long))
place_of_difference (a ∷ xs) (b ∷ ys) long differ = elim (eqb_tells a b) [
  | inr other ↦ (0, omega arith, other.1)
  | inl same ↦
      let (j, within, apart) = place_of_difference xs ys (omega (arith, long)) (λ e. differ (ap₂ (λ x l. x ∷ l) same.1 e)) in
      (suc j, omega (arith, within), apart)
]

-- ---- a list of numbers as one number

pub digits : List ℕ → ℕ
digits [] = 0
digits (a ∷ xs) = digits xs * 2 ^ 128 + a

abbrev pub AreMultipliers : ℕ → List ℕ → Type 0
AreMultipliers m xs = (length xs ≡ m) × All (λ a. a < 2 ^ 128) xs

power_of : (m : ℕ) → 2 ^ (128 * suc m) ≡ 2 ^ 128 * 2 ^ (128 * m)
power_of m = ap (λ k. 2 ^ k) (let e : 128 * suc m ≡ 128 + 128 * m = omega arith in e) ∙ pow-add 2 128 (128 * m)

pub digits_in : (m : ℕ) (xs : List ℕ) → AreMultipliers m xs → digits xs < 2 ^ (128 * m)
unfolding digits
digits_in zero [] are = omega arith
digits_in (suc m) [] are = absurd (omega (arith, are.0))
digits_in zero (a ∷ xs) are = absurd (omega (arith, are.0))
digits_in (suc m) (a ∷ xs) are =
    subst (λ k. digits xs * 2 ^ 128 + a < k) (sym (power_of m))
    (mul-add-lt (digits xs) (2 ^ 128) a (2 ^ (128 * m)) (digits_in m xs (omega (arith, are.0), All-tail (λ b. b < 2 ^ 128) a xs are.1))
    (All-head (λ b. b < 2 ^ 128) a xs are.1))

pub digits_tell : (m : ℕ) (xs ys : List ℕ) → AreMultipliers m xs → AreMultipliers m ys → digits xs ≡ digits ys → xs ≡ ys
unfolding digits
digits_tell m [] [] one two same = refl
digits_tell m [] (b ∷ ys) one two same = absurd (omega (arith, one.0, two.0))
digits_tell m (a ∷ xs) [] one two same = absurd (omega (arith, one.0, two.0))
digits_tell zero (a ∷ xs) (b ∷ ys) one two same = absurd (omega (arith, one.0))
digits_tell (suc m) (a ∷ xs) (b ∷ ys) one two same =
    let places = same_by_places (2 ^ 128) (digits xs) (digits ys) a b (All-head (λ c. c < 2 ^ 128) a xs one.1) (All-head (λ c. c < 2 ^ 128) b ys two.1) same in
    ap₂ (λ x l. x ∷ l) places.1
    (digits_tell m xs ys (omega (arith, one.0), All-tail (λ c. c < 2 ^ 128) a xs one.1) (omega (arith, two.0), All-tail (λ c. c < 2 ^ 128) b ys two.1) places.0)

-- ---- keys of any form, with n multipliers and an addend

module _ {X : Type 0} (is : X → Type 0) (multipliers : X → List ℕ) (addend : X → ℕ)
    (tell : (k l : X) → is k → is l → multipliers k ≡ multipliers l → addend k ≡ addend l → k ≡ l)
    (n : ℕ) (are_multipliers : (k : X) → is k → AreMultipliers n (multipliers k)) (addend_in : (k : X) → is k → addend k < 2 ^ 128) where
  abbrev hash : X → List ℕ → ℕ
  hash key words = words_hash (multipliers key) (addend key) words

  pub hash_in : (key : X) (words : List ℕ) → hash key words < 2 ^ 64
  hash_in key words = omega (arith, mod-lt (dot (multipliers key) words + addend key) {m = 2 ^ 128} (lit< tt))

  -- by the multiplier at a place
  abbrev parts : ℕ → X → ℕ × ℕ × List ℕ
  parts j key = (at j (multipliers key), addend key, without j (multipliers key))

  abbrev others : ℕ → List ℕ → List ℕ → ℕ
  others j words r = dot r (without j words)

  by_place : (j : ℕ) (key : X) (words : List ℕ)
      → hash key words ≡ (at j (multipliers key) * at j words + (addend key + others j words (without j (multipliers key)))) % 2 ^ 128 / 2 ^ 64
  by_place j key words = grind (arith, nat_tests, common_steps, at, without, dot-split)

  at_place : (m j : ℕ) (x y : List ℕ) (u v : ℕ) (keys : List X) → n ≡ suc m → j < n → AreWords n x → AreWords n y → at j x ≢ at j y
      → All is keys → AllPairs ◌≢◌ keys → All (λ k. (hash k x ≡ u) × (hash k y ≡ v)) keys → length keys ≤ 2 ^ (128 * m) * 2 ^ 128
  at_place m j x y u v keys more j_in x_are y_are apart are differ have =
      even (2 ^ (128 * m)) digits (AreMultipliers m) (digits_in m) (digits_tell m) is (parts j)
      (λ k l k_is l_is same.
      grind (arith, nat_tests, common_steps, put_back))
      (λ k k_is.
      let there = are_multipliers k k_is in
      let j_there : j < length (multipliers k) = omega (arith, j_in, there.0) in (
        at_holds (λ a. a < 2 ^ 128) j (multipliers k) j_there there.1,
        addend_in k k_is,
        (omega (arith, length-without j (multipliers k) j_there, there.0, more), All-without (λ a. a < 2 ^ 128) j (multipliers k) there.1),
      ))
      (others j x) (others j y) (at j x) (at j y) u v keys
      (at_holds (λ w. w < 2 ^ 64) j x (omega (arith, j_in, x_are.0)) x_are.1) (at_holds (λ w. w < 2 ^ 64) j y (omega (arith, j_in, y_are.0)) y_are.1)
      apart differ are
      (λ i any h. let k = get_or keys i any in (sym (by_place j k x) ∙ (have i any h).0, sym (by_place j k y) ∙ (have i any h).1))

  -- each pair of hashes of two different lists of n words comes from no more keys than its share
  pub even_words : (x y : List ℕ) → AreWords n x → AreWords n y → x ≢ y → (u v : ℕ) (keys : List X) → All is keys → AllPairs ◌≢◌ keys
      → All (λ k. (hash k x ≡ u) × (hash k y ≡ v)) keys → length keys ≤ 2 ^ (128 * n)
  even_words x y x_are y_are apart u v keys are differ have =
      let (j, within, other) = place_of_difference x y (x_are.0 ∙ sym y_are.0) apart in
      let j_in : j < n = omega (arith, within, x_are.0) in
      let more : n ≡ suc (n - 1) = omega (arith, j_in) in
      let few = at_place (n - 1) j x y u v keys more j_in x_are y_are other are differ have in
      omega (arith, few, power_of (n - 1), ap (λ k. 2 ^ (128 * k)) more)

  -- one list's hash
  pub one_hash : (x : List ℕ) (u : ℕ) (keys : List X) → All is keys → AllPairs ◌≢◌ keys → All (λ k. hash k x ≡ u) keys
      → length keys ≤ 2 ^ (128 * n + 64)
  one_hash x u keys are differ have =
      let full = λ (k : X). (dot (multipliers k) x + addend k) % 2 ^ 128 in
      let few = count (λ k. is k × (hash k x ≡ u)) (λ k. digits (multipliers k) * 2 ^ 64 + full k % 2 ^ 64) (2 ^ 64 * 2 ^ (128 * n)) keys differ
      (λ i any h. (are i any h, have i any h))
      (λ k k_is. mul-add-lt (digits (multipliers k)) (2 ^ 64) (full k % 2 ^ 64) (2 ^ (128 * n))
      (digits_in n (multipliers k) (are_multipliers k k_is.0)) (mod-lt (full k) (lit< tt)))
      (λ k l k_is l_is same.
      let places = same_by_places (2 ^ 64) (digits (multipliers k)) (digits (multipliers l)) (full k % 2 ^ 64) (full l % 2 ^ 64)
      (mod-lt (full k) (lit< tt)) (mod-lt (full l) (lit< tt)) same in
      let all = digits_tell n (multipliers k) (multipliers l) (are_multipliers k k_is.0) (are_multipliers l l_is.0) places.0 in
      let hashes = k_is.1 ∙ sym l_is.1 in
      let sums : full k ≡ full l = omega (arith, hashes, places.1) in
      tell k l k_is.0 l_is.0 all
      (same_addend (dot (multipliers k) x) (addend k) (addend l) (addend_in k k_is.0) (addend_in l l_is.0)
      (sums ∙ ap (λ a. (dot a x + addend l) % 2 ^ 128) (sym all)))) in
      omega (arith, few, pow-add 2 (128 * n) 64)
