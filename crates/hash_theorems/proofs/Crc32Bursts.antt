-- Why two texts that differ within 32 neighbouring bits have different CRCs: all that is left of their difference is the pattern, a word,
-- with some bits gone out, and that loses nothing.
use Rattle.hash_theorems.proofs.MoreCommon.{inl, inr, ◌≡◌, ◌≢◌, ℕ, ◌+◌, ◌-◌, ◌*◌, ◌/◌, ◌^◌, ◌<◌, List, length, bit_xor, sym, ap, ◌∙◌, lit<, arith, ap₂, cases_lt, xor_self, xor_zero_l, IsText, xor_cancel, DifferWithin, all_ones, bits_out, crc_from, crc_answer, exchanged, bits_out-xor, moved_down}
use Rattle.std.proofs.Common.{mul_assoc, mul-pos, pow-add, pow_pos}
use Rattle.hash_words.specs.Words.{le}
use Rattle.hash_theorems.specs.Bursts.{DifferWithinBits}
use Rattle.hash_more.specs.Crc32Laws.{bits_out-same}
use Rattle.hash_theorems.proofs.BurstLemmas.{within_four}
use Rattle.hash_more.proofs.Crc32Texts.{bits_out-more, bits_out-none, crc_from-number}

module _ (p : ℕ) (highest : p / 2 ^ 31 ≡ 1) where
  -- a pattern does not vanish, however many bits go out behind its place, or before
  stays : (n from pattern : ℕ) → 0 < pattern → pattern < 2 ^ 32 → bits_out p n (2 ^ from * pattern) ≢ 0
  stays n from pattern some fits none = elim (cases_lt n from) [
    | inr within ↦
        let rest = n - from in
        let all : from + rest ≡ n = omega arith in
        let left : bits_out p n (2 ^ from * pattern) ≡ bits_out p rest pattern =
        sym (ap (λ k. bits_out p k (2 ^ from * pattern)) all) ∙ sym (bits_out-more p from rest (2 ^ from * pattern))
        ∙ ap (bits_out p rest) (moved_down p from pattern) in
        let zero_is : pattern ≡ 0 = bits_out-same p highest rest pattern 0 fits (lit< tt) (sym left ∙ none ∙ sym (bits_out-none p rest)) in
        omega arith
    | inl beyond ↦
        let more = from - n in
        let all : from ≡ n + more = omega arith in
        let left : bits_out p n (2 ^ from * pattern) ≡ 2 ^ more * pattern =
        ap (λ k. bits_out p n (k * pattern)) (ap (λ k. 2 ^ k) all ∙ pow-add 2 n more)
        ∙ ap (bits_out p n) (mul_assoc (2 ^ n) (2 ^ more) pattern) ∙ moved_down p n (2 ^ more * pattern) in
        let positive : 0 < 2 ^ more * pattern = mul-pos (pow_pos more) some in
        omega (arith, left, none, positive)
  ]

  pub burst_apart : (x y : List ℕ) → IsText x → IsText y → DifferWithinBits 32 x y
      → crc_answer (crc_from p all_ones x) ≢ crc_answer (crc_from p all_ones y)
  burst_apart x y xs ys burst same =
      let n = 8 * length x in
      let states : crc_from p all_ones x ≡ crc_from p all_ones y = xor_cancel (crc_from p all_ones x)
      (crc_from p all_ones y) all_ones same in
      let of_y : crc_from p all_ones y ≡ bits_out p n (bit_xor all_ones (le y)) =
      crc_from-number p y all_ones ys ∙ ap (λ k. bits_out p (8 * k) (bit_xor all_ones (le y))) (sym burst.same_length) in
      let difference : bits_out p n (2 ^ burst.burst.from * burst.burst.pattern) ≡ bit_xor (crc_from p all_ones x) (crc_from p all_ones y) =
      sym (ap₂ bit_xor (crc_from-number p x all_ones xs) of_y
      ∙ sym (bits_out-xor p n (bit_xor all_ones (le x)) (bit_xor all_ones (le y)))
      ∙ ap (bits_out p n) (exchanged all_ones (le x) all_ones (le y)
      ∙ ap (λ z. bit_xor z (bit_xor (le x) (le y))) (xor_self all_ones) ∙ xor_zero_l (bit_xor (le x) (le y)) ∙ burst.burst.is)) in
      stays n burst.burst.from burst.burst.pattern burst.burst.some burst.burst.fits
      (difference ∙ ap (λ s. bit_xor s (crc_from p all_ones y)) states ∙ xor_self (crc_from p all_ones y))

  pub crc_apart : (x y : List ℕ) → IsText x → IsText y → DifferWithin 4 0 x y
      → crc_answer (crc_from p all_ones x) ≢ crc_answer (crc_from p all_ones y)
  crc_apart x y xs ys window = burst_apart x y xs ys (within_four x y xs ys window)
