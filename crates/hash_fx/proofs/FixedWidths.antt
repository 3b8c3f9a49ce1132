-- Numbers of fixed widths, as words.
use Rattle.hash_fx.proofs.Common.{ℕ, List, fold, ◌≡◌, ◌<◌, ◌∙◌, ap, sym, refl, [], ◌∷◌, ◌%◌, ◌/◌, ◌^◌, take, drop, arith, ap₂, le, pieces, recurrence, recurrence-fold, fx32, fx32_step, fx64, fx64_step, words32, words64}
use Rattle.std.proofs.Common.{lit≤}
use Rattle.std.specs.Hash.{le_bytes}
use Rattle.hash_words.proofs.WordLemmas.{le-to_le_bytes-32, le-to_le_bytes-64, le_by_places}

-- a number that is one word
pub words64-byte : (v : ℕ) → words64 (v ∷ []) ≡ v ∷ []
unfolding pieces
words64-byte v = refl

pub words32-byte : (v : ℕ) → words32 (v ∷ []) ≡ v ∷ []
unfolding pieces
words32-byte v = refl

pub words32-four : (v : ℕ) → v < 2 ^ 32 → words32 (le_bytes 4 v) ≡ v ∷ []
unfolding pieces le_bytes
words32-four v below = ap (λ w. w ∷ []) (le-to_le_bytes-32 v below)

pub words64-four : (v : ℕ) → v < 2 ^ 32 → words64 (le_bytes 4 v) ≡ v ∷ []
unfolding pieces le_bytes
words64-four v below = words32-four v below

pub words64-eight : (v : ℕ) → v < 2 ^ 64 → words64 (le_bytes 8 v) ≡ v ∷ []
unfolding pieces le_bytes
words64-eight v below = ap (λ w. w ∷ []) (le-to_le_bytes-64 v below)

-- one or two words, by any step
module _ (step : ℕ → ℕ → ℕ) (h v : ℕ) where
  pub of_byte : recurrence step h (v ∷ []) ≡ step h v
  of_byte = recurrence-fold step h (v ∷ [])

  pub of_two : v < 2 ^ 16 → recurrence step h (le_bytes 2 v) ≡ step (step h (v % 2 ^ 8)) (v / 2 ^ 8)
  unfolding le_bytes
  of_two below =
      let high : v / 2 ^ 8 % 2 ^ 8 ≡ v / 2 ^ 8 = omega arith in
      recurrence-fold step h (le_bytes 2 v) ∙ ap (step (step h (v % 2 ^ 8))) high

-- at 64 bits
pub fx64_of_four : (h v : ℕ) → v < 2 ^ 32 → fx64 h (words64 (le_bytes 4 v)) ≡ fx64_step h v
fx64_of_four h v below = ap (recurrence fx64_step h) (words64-four v below) ∙ of_byte fx64_step h v

pub fx64_of_eight : (h v : ℕ) → v < 2 ^ 64 → fx64 h (words64 (le_bytes 8 v)) ≡ fx64_step h v
fx64_of_eight h v below = ap (recurrence fx64_step h) (words64-eight v below) ∙ of_byte fx64_step h v

-- at 32 bits
pub fx32_of_four : (h v : ℕ) → v < 2 ^ 32 → fx32 h (words32 (le_bytes 4 v)) ≡ fx32_step h v
fx32_of_four h v below = ap (recurrence fx32_step h) (words32-four v below) ∙ of_byte fx32_step h v

pub fx32_of_eight : (h v : ℕ) → v < 2 ^ 64 → fx32 h (words32 (le_bytes 8 v)) ≡ fx32_step (fx32_step h (v % 2 ^ 32)) (v / 2 ^ 32)
unfolding pieces le_bytes
fx32_of_eight h v below =
    let low : le (take 4 (le_bytes 8 v)) ≡ v % 2 ^ 32 = omega (arith, le_by_places 4 (take 4 (le_bytes 8 v)) (lit≤ tt)) in
    let high : le (drop 4 (le_bytes 8 v)) ≡ v / 2 ^ 32 = omega (arith, le_by_places 4 (drop 4 (le_bytes 8 v)) (lit≤ tt)) in
    recurrence-fold fx32_step h (le (take 4 (le_bytes 8 v)) ∷ le (drop 4 (le_bytes 8 v)) ∷ [])
    ∙ ap₂ (λ a b. fx32_step (fx32_step h a) b) low high

-- ---- keys of maps
after_each : (s : ℕ) (bytes : List ℕ) → fold (λ s b. fx64 s (words64 (b ∷ []))) s bytes ≡ fold fx64_step s bytes
after_each s [] = refl
after_each s (b ∷ bytes) =
    ap (λ t. fold (λ s b. fx64 s (words64 (b ∷ []))) t bytes) (ap (fx64 s) (words64-byte b) ∙ of_byte fx64_step s b)
    ∙ after_each (fx64_step s b) bytes

pub fx64_number : (n : ℕ) → n < 2 ^ 64 → fx64 0 (words64 (le_bytes 8 n)) ≡ fx64 0 (n ∷ [])
fx64_number n below = ap (fx64 0) (words64-eight n below)

pub fx64_slice : (n : ℕ) (bytes : List ℕ) → n < 2 ^ 64
    → fold (λ s b. fx64 s (words64 (b ∷ []))) (fx64 0 (words64 (le_bytes 8 n))) bytes ≡ fx64 0 (n ∷ bytes)
fx64_slice n bytes below =
    after_each _ bytes ∙ ap (λ s. fold fx64_step s bytes) (fx64_of_eight 0 n below) ∙ sym (recurrence-fold fx64_step 0 (n ∷ bytes))

pub fx64_pair : (a b : ℕ) → a < 2 ^ 64 → b < 2 ^ 64 → fx64 (fx64 0 (words64 (le_bytes 8 a))) (words64 (le_bytes 8 b)) ≡ fx64 0 (a ∷ b ∷ [])
fx64_pair a b below below' =
    ap (λ s. fx64 s (words64 (le_bytes 8 b))) (fx64_of_eight 0 a below) ∙ fx64_of_eight (fx64_step 0 a) b below'
    ∙ sym (recurrence-fold fx64_step 0 (a ∷ b ∷ []))

pub ruleset words_of_numbers = (words64-byte, words64-four, words64-eight, words32-byte, words32-four)
