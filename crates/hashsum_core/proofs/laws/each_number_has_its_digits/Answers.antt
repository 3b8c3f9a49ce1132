use Rattle.hashsum_core.proofs.Common.{ℕ, ◌%◌, ◌^◌, ◌<◌, ◌≤◌, List, arith, lit<, lit≤, digits_of, prime61, bits_of, both, Kind, Ported, Fnv1a32, sum_of, wide_of, width_in, width_of, IsText, Sum, Wide, murmur3_below, spooky_below, xxh128_below}
use Rattle.hash_lines.specs.declared.sums.Sum.TheVariants as sum
use Rattle.hash_lines.specs.declared.sums.Wide.TheVariants as wide
use Rattle.hashsum_core.proofs.FitLemmas.{siphash_below}
use Rattle.hashsum_core.proofs.KeyLemmas.{in_64}
use Rattle.hashsum_core.proofs.laws.each_number_has_its_digits.Goals as goal

-- two words side by side
both_below : (words : ℕ × ℕ) → (words.0 < 2 ^ 64) × (words.1 < 2 ^ 64) → both words < 2 ^ 128
both_below words are = omega (arith, are.0, are.1)

wide_below : (which : Wide) (text : List ℕ) → wide_of which text < 2 ^ 128
wide_below wide.Spooky text = both_below _ (spooky_below 0 0 text (lit< tt) (lit< tt))
wide_below wide.Murmur3 text = both_below _ (murmur3_below 0 text)
wide_below wide.Xxh3 text = let (low, high) = xxh128_below 0 text in both_below _ (high, low)

-- a digit for four bits
digits_for : (kind : Kind) → 2 ^ bits_of kind ≤ 16 ^ digits_of (width_of (bits_of kind))
digits_for (Ported Fnv1a32) = lit≤ tt
digits_for kind = lit≤ tt

pub returns : goal.returns
returns c = fits
  where
    fits : (keys : ℕ × ℕ) (which : Sum) (text : List ℕ) → keys.0 < 2 ^ 64 → keys.1 < 2 ^ 64 → IsText text
        → sum_of keys which text < 16 ^ digits_of (width_in which)
    fits keys (sum.Table row) text first second is = omega (arith, c.each_hash_fits.ensures.read row text is, digits_for row)
    fits keys (sum.Wide which) text first second is = wide_below which text
    fits keys sum.Poly61 text first second is = both_below (_, _) (in_64 (keys.0 % prime61) text, in_64 (keys.1 % prime61) text)
    fits keys sum.SipHash24 text first second is = siphash_below 2 4 keys.0 keys.1 text first second is
