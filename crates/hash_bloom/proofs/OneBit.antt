-- One bit more among words.
use Rattle.hash_bloom.proofs.Common.{ℕ, ◌≡◌, ◌≢◌, ◌⊎◌, ◌↔◌, ◌*◌, ◌/◌, ◌%◌, ◌^◌, ◌<◌, List, length, get_or, set, ap, arith, ⊎_elim, get_or-set_other, bit_or, bit_at, cases_eq, elements, bit_at_set_same, bit_at_set_other, HasBit, common_steps, nat_tests}
use Rattle.std.proofs.Common.{w64}

-- the words with one bit more
abbrev pub with_bit : List ℕ → ℕ → List ℕ
with_bit words at = set words (at / 64) (bit_or (get_or words (at / 64) 0) (1 * 2 ^ (at % 64) % 2 ^ 64))

module _ (words : List ℕ) (at : ℕ) (there : at < 64 * length words) where
  below : at / 64 < length words
  below = omega arith

  within : at % 64 < 64
  within = omega arith

  pub has_new : HasBit (with_bit words at) at
  has_new = grind (arith, elements, below, bit_at_set_same w64 (get_or words (at / 64) 0) (at % 64) within)

  -- every other bit is as it was
  pub other_bit : (j : ℕ) → j ≢ at → bit_at (get_or (with_bit words at) (j / 64) 0) (j % 64) ≡ bit_at (get_or words (j / 64) 0) (j % 64)
  other_bit j other = ⊎_elim
      (λ (same : j / 64 ≡ at / 64).
      let apart : j % 64 ≢ at % 64 = omega arith in
      grind (
        arith,
        elements,
        same,
        below,
        bit_at_set_other w64 (get_or words (at / 64) 0) (at % 64) within (j % 64) apart,
      ))
      (λ (ne : j / 64 ≢ at / 64). ap (λ w. bit_at w (j % 64)) (get_or-set_other words (at / 64) (j / 64) _ 0 ne))
      (cases_eq (j / 64) (at / 64))

  pub one_bit_more : (j : ℕ) → HasBit (with_bit words at) j ↔ (HasBit words j ⊎ j ≡ at)
  one_bit_more j = grind (arith, nat_tests, common_steps, has_new, other_bit, cases_eq)
