-- The laws of two different lists of n words, at n multipliers and an addend.
use Rattle.std.proofs.lemmas.Grind.{common_steps}
use Rattle.hash_map_keys.proofs.Common.{ℕ, ap, All, AllPairs, AreTables, AreWords, List, [], ap₂, arith, cond, count_by, dot, have_hashes, le_of_mul-le-mul_left, length, meetings, mul-le, number_hash, pair_hash, pow-add, share_place, suc, sum_by, sum_by-cons, sym, words_hash, ◌%◌, ◌*◌, ◌+◌, ◌-◌, ◌/◌, ◌<◌, ◌^◌, ◌∙◌, ◌∷◌, ◌≡◌, ◌≢◌, ◌≤◌}
use Rattle.std.proofs.Common.{mul_assoc, nat_lt}
use Rattle.std.proofs.Math.Nat.{mul-div-le}
use Rattle.std.proofs.lemmas.Bool.Decides.{nat_tests}
use Rattle.hash_map_keys.proofs.FromEvenness.{exactly, share_both, share_low}
use Rattle.hash_keyed.proofs.Meetings.{few_meetings_of}
use Rattle.hash_map_keys.proofs.WordHashes as words

abbrev Table : Type 0
Table = List ℕ × ℕ

module _ (n : ℕ) where
  abbrev IsTable : Table → Type 0
  IsTable key = (length key.0 ≡ n) × All (λ a. a < 2 ^ 128) key.0 × (key.1 < 2 ^ 128)

  abbrev hash : Table → List ℕ → ℕ
  hash key x = words_hash key.0 key.1 x

  tell : (k l : Table) → IsTable k → IsTable l → k.0 ≡ l.0 → k.1 ≡ l.1 → k ≡ l
  tell k l k_is l_is one two = ap₂ (λ (a : List ℕ) (b : ℕ). (a, b)) one two

  hash_in : (key : Table) (x : List ℕ) → hash key x < 2 ^ 64
  hash_in = words.hash_in IsTable (λ k. k.0) (λ k. k.1) tell n (λ k is. (is.0, is.1)) (λ k is. is.2)

  even : (x y : List ℕ) → AreWords n x → AreWords n y → x ≢ y → (u v : ℕ) (keys : List Table) → All IsTable keys → AllPairs ◌≢◌ keys
      → All (λ key. (hash key x ≡ u) × (hash key y ≡ v)) keys → length keys ≤ 2 ^ (128 * n)
  even = words.even_words IsTable (λ k. k.0) (λ k. k.1) tell n (λ k is. (is.0, is.1)) (λ k is. is.2)

  share : (x y : List ℕ) (bits : ℕ) → AreWords n x → AreWords n y → x ≢ y → bits ≤ 64 → (keys : List Table) → All IsTable keys → AllPairs ◌≢◌ keys
      → All (λ key. hash key x % 2 ^ bits ≡ hash key y % 2 ^ bits) keys → length keys ≤ 2 ^ (128 * n + 128 - bits)
  share x y bits x_are y_are apart within = share_low IsTable hash hash_in (128 * n) x y (even x y x_are y_are apart) bits within

pub even_pairs : (n : ℕ) (x y : List ℕ) (u v : ℕ) (keys : List Table) → AreWords n x → AreWords n y → x ≢ y → AreTables n keys
    → All (λ key. (words_hash key.0 key.1 x ≡ u) × (words_hash key.0 key.1 y ≡ v)) keys → length keys ≤ 2 ^ (128 * n)
even_pairs n x y u v keys x_are y_are apart are have = even n x y x_are y_are apart u v keys are.below are.differ have

pub exactly_even : (n : ℕ) (x y : List ℕ) (u v : ℕ) (keys : List Table) → AreWords n x → AreWords n y → x ≢ y → u < 2 ^ 64 → v < 2 ^ 64
    → AreTables n keys → length keys ≡ 2 ^ (128 * n + 128)
    → count_by (λ key. have_hashes x y u v (words_hash key.0 key.1)) keys ≡ 2 ^ (128 * n)
exactly_even n x y u v keys x_are y_are apart u_in v_in are all =
    exactly (IsTable n) (hash n) (hash_in n) (128 * n) x y (even n x y x_are y_are apart) u v u_in v_in keys are.below are.differ
    (omega (arith, all, pow-add 2 (128 * n) 128))

pub few_have : (n : ℕ) (x : List ℕ) (u : ℕ) (keys : List Table) → AreTables n keys → All (λ key. words_hash key.0 key.1 x ≡ u) keys
    → length keys ≤ 2 ^ (128 * n + 64)
few_have n x u keys are have =
    words.one_hash (IsTable n) (λ k. k.0) (λ k. k.1) (tell n) n (λ k is. (is.0, is.1)) (λ k is. is.2) x u keys are.below are.differ have

pub few_share : (n : ℕ) (x y : List ℕ) (low high : ℕ) (keys : List Table) → AreWords n x → AreWords n y → x ≢ y → low + high ≤ 64 → AreTables n keys
    → All (λ key. (words_hash key.0 key.1 x % 2 ^ low ≡ words_hash key.0 key.1 y % 2 ^ low)
    × (words_hash key.0 key.1 x / 2 ^ (64 - high) ≡ words_hash key.0 key.1 y / 2 ^ (64 - high))) keys
    → length keys ≤ 2 ^ (128 * n + 128 - low - high)
few_share n x y low high keys x_are y_are apart within are have =
    share_both (IsTable n) (hash n) (hash_in n) (128 * n) x y (even n x y x_are y_are apart) low high within keys are.below are.differ have

pub few_meetings : (n : ℕ) (texts : List (List ℕ)) (bits : ℕ) (keys : List Table) → All (AreWords n) texts → AllPairs ◌≢◌ texts → bits ≤ 64
    → AreTables n keys
    → sum_by (λ key. meetings (share_place bits (words_hash key.0 key.1)) texts) keys
    ≤ length texts * (length texts - 1) / 2 * 2 ^ (128 * n + 128 - bits)
few_meetings n texts bits keys are_words differ within are =
    few_meetings_of (IsTable n) (hash n) (AreWords n) bits (2 ^ (128 * n + 128 - bits))
    (λ x y x_are y_are apart some is differs have. share n x y bits x_are y_are apart within some is differs have)
    keys are.below are.differ texts are_words differ

-- where a function is above a number, it adds more than that to the sum
few_above : {X : Type 0} (f : X → ℕ) (m : ℕ) (xs : List X) → suc m * count_by (λ x. nat_lt m (f x)) xs ≤ sum_by f xs
few_above f m [] = omega arith
few_above f m (x ∷ xs) =
    let rest = few_above f m xs in
    let one : suc m * cond (nat_lt m (f x)) 1 0 ≤ f x = grind (arith, nat_tests) in
    rw (sum_by-cons (λ y. cond (nat_lt m (f y)) 1 0) x xs, sum_by-cons f x xs) (omega (arith, rest, one))

module _ (n : ℕ) (texts : List (List ℕ)) (bits : ℕ) (keys : List Table) (are_words : All (AreWords n) texts) (differ : AllPairs ◌≢◌ texts)
    (within : bits ≤ 64) (few : length texts ≤ 2 ^ bits) (are : AreTables n keys) where
  abbrev meet : Table → ℕ
  meet key = meetings (share_place bits (words_hash key.0 key.1)) texts

  abbrev all : ℕ
  all = 2 ^ (128 * n + 128)

  pub mean_meetings : 2 * sum_by meet keys ≤ length texts * all
  mean_meetings =
      let m = length texts in
      let share = 2 ^ (128 * n + 128 - bits) in
      let pairs : 2 * (m * (m - 1) / 2) ≤ m * 2 ^ bits =
      omega (arith, mul-div-le (m * (m - 1)) 2, mul-le m (m - 1) m (2 ^ bits) (omega arith) (omega (arith, few))) in
      let whole : m * 2 ^ bits * share ≡ m * all =
      mul_assoc m (2 ^ bits) share
      ∙ ap (λ k. m * k) (sym (pow-add 2 bits (128 * n + 128 - bits))
      ∙ ap (λ k. 2 ^ k) (let e : bits + (128 * n + 128 - bits) ≡ 128 * n + 128 = omega arith in e)) in
      omega (
        arith,
        few_meetings n texts bits keys are_words differ within are,
        mul-le (2 * (m * (m - 1) / 2)) share (m * 2 ^ bits) share pairs (omega arith),
        whole,
      )

  pub half_of_the_keys : 2 * count_by (λ key. nat_lt (length texts) (meet key)) keys ≤ all
  half_of_the_keys =
      let m = length texts in
      let count = count_by (λ key. nat_lt m (meet key)) keys in
      let l : suc m * (2 * count) ≤ suc m * all = omega (arith, few_above meet m keys, mean_meetings) in
      le_of_mul-le-mul_left l (omega arith)

-- ---- numbers are lists of one word and of two

pub pair_words : (a a2 b x : ℕ) → pair_hash a a2 b x ≡ words_hash (a ∷ a2 ∷ []) b (x % 2 ^ 64 ∷ x / 2 ^ 64 ∷ [])
unfolding dot
pair_words a a2 b x = grind (arith, nat_tests, common_steps)

pub number_words : (a b x : ℕ) → number_hash a b x ≡ words_hash (a ∷ []) b (x ∷ [])
unfolding dot
number_words a b x = ap (λ z. z % 2 ^ 128 / 2 ^ 64) (let e : a * x + b ≡ a * x + 0 + b = omega arith in e)
