-- Why two texts that differ within six places, and agree in the top three bits, have different hashes by djb2 with a sum: what is left
-- of six bytes below 32 are the digits of a number in base 33 that is below 2^32.
use Rattle.hash_theorems.proofs.MoreCommon.{◌≡◌, ℕ, zero, suc, ◌+◌, ◌*◌, ◌/◌, ◌%◌, ◌^◌, ◌<◌, ◌≤◌, ◌≢◌, List, lit<, arith, bit_and, and_high, IsText, DifferWithin, recurrence_is_fold, hash_apart, Separates, common_steps, nat_tests}
use Rattle.hash_more.specs.Djb2Add.{djb2_add_step, djb2_add_from}

-- two bytes that agree in the top three bits
same_top : (a b : ℕ) → bit_and a 224 ≡ bit_and b 224 → a < 256 → b < 256 → a / 32 ≡ b / 32
same_top a b e sa sb = omega (arith, and_high a 3 5, and_high b 3 5)

-- modulo 2^32, h less k is c less d, two different numbers below a limit
pub record Digits (limit h k : ℕ) : Type 0 where
  pub c : ℕ
  pub d : ℕ
  pub c_below : c < limit
  pub d_below : d < limit
  pub fits : limit ≤ 2 ^ 32
  pub differ : c ≢ d
  pub apart : (h + d) % 2 ^ 32 ≡ (k + c) % 2 ^ 32

first_digit : (h a b : ℕ) → a / 32 ≡ b / 32 → a ≢ b → Digits 33 (djb2_add_step h a) (djb2_add_step h b)
first_digit h a b top ne = record {
  c = a % 32;
  d = b % 32;
  c_below = omega arith;
  d_below = omega arith;
  fits = omega arith;
  differ = omega arith;
  apart = omega arith;
}

next_digit : (limit h k a b : ℕ) → 33 * limit ≤ 2 ^ 32 → a / 32 ≡ b / 32 → Digits limit h k
    → Digits (33 * limit) (djb2_add_step h a) (djb2_add_step k b)
next_digit limit h k a b fits top far = record {
  c = 33 * far.c + a % 32;
  d = 33 * far.d + b % 32;
  c_below = omega (arith, far.c_below);
  d_below = omega (arith, far.d_below);
  fits = fits;
  differ = omega (arith, far.differ);
  apart = omega (arith, far.apart);
}

different : (limit h k : ℕ) → Digits limit h k → h ≢ k
different limit h k far = λ e. far.differ (omega (arith, far.c_below, far.d_below, far.fits, far.apart))

-- so many digits in base 33
abbrev pub limit_after : ℕ → ℕ
limit_after zero = 33
limit_after (suc n) = 33 * limit_after n

limit_fits : (n : ℕ) → suc n < 6 → 33 * limit_after n ≤ 2 ^ 32
limit_fits zero h = omega arith
limit_fits (suc zero) h = omega arith
limit_fits (suc (suc zero)) h = omega arith
limit_fits (suc (suc (suc zero))) h = omega arith
limit_fits (suc (suc (suc (suc zero)))) h = omega arith
limit_fits (suc (suc (suc (suc (suc n))))) h = absurd (omega arith)

djb2_add_separates : Separates djb2_add_step (λ s. s < 2 ^ 32) 6 224 (λ n. Digits (limit_after n))
djb2_add_separates = grind (arith, nat_tests, common_steps, first_digit, same_top, next_digit, limit_fits, different)

pub djb2_add_apart : (x y : List ℕ) → IsText x → IsText y → DifferWithin 6 0xE0 x y → djb2_add_from 5381 x ≢ djb2_add_from 5381 y
djb2_add_apart x y = hash_apart djb2_add_step (2 ^ 32) 6 224 (λ n. Digits (limit_after n)) djb2_add_separates djb2_add_from
    (recurrence_is_fold djb2_add_step (2 ^ 32)) 5381 x y (lit< tt)
