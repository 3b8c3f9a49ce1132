-- Why two texts that differ within three places (fnv1a64) or two (fnv1a32) have different hashes.
use Rattle.std.proofs.Common.{◌≡◌, ℕ, zero, suc, ◌+◌, ◌*◌, ◌/◌, ◌%◌, ◌^◌, ◌<◌, ◌≢◌, arith, bit_xor}
use Rattle.hash_bytes.specs.Fnv.{fnv1a32_step, fnv1a64_step}
use Rattle.hash_words.proofs.XorLemmas.{xored_32, xored_64, xor_cancel_left, xor_block_kept}
use Rattle.hash_laws.proofs.WindowLemmas.{Separates}
use Rattle.hash_bytes.specs.FnvLaws.{fnv1a32_product, fnv1a64_product, fnv1a32_facts, fnv1a64_facts}
use Rattle.hash_words.proofs.UndoLemmas.{told}
use Rattle.hash_theorems.proofs.WindowSpreads.{IsState32, IsState64, OneByte, OneByte-times, TwoBytes, separates}

-- a byte moves a state within its block of 256
kept : (h b : ℕ) → b < 256 → bit_xor h b / 256 ≡ h / 256
kept h b small = xor_block_kept 8 h b small

first : (m p h a b : ℕ) → a < 256 → b < 256 → a ≢ b → OneByte m p (bit_xor h a * p % m) (bit_xor h b * p % m)
first m p h a b sa sb ne =
    OneByte-times m p h (bit_xor h a) (bit_xor h b) (kept h a sa) (kept h b sb) (λ e. ne (xor_cancel_left h a b e))

abbrev pub Fnv32Apart : ℕ → ℕ → ℕ → Type 0
Fnv32Apart zero = OneByte (2 ^ 32) 16777619
Fnv32Apart (suc n) = λ h k. h ≢ k

-- in plain numbers: y and z are the states after the bytes' `^`
second_32 : (h k y z : ℕ) → y / 256 ≡ h / 256 → z / 256 ≡ k / 256 → OneByte (2 ^ 32) 16777619 h k → y ≢ z
second_32 h k y z yh zk far = λ e. far.differ (omega (arith, far.apart))

abbrev pub Fnv64Apart : ℕ → ℕ → ℕ → Type 0
Fnv64Apart zero = OneByte (2 ^ 64) 1099511628211
Fnv64Apart (suc zero) = TwoBytes (2 ^ 64) (870 * 2 ^ 40 + 189225) 1099511628211 511
Fnv64Apart (suc (suc n)) = λ h k. h ≢ k

second_64 : (h k y z : ℕ) → y / 256 ≡ h / 256 → z / 256 ≡ k / 256 → OneByte (2 ^ 64) 1099511628211 h k
    → TwoBytes (2 ^ 64) (870 * 2 ^ 40 + 189225) 1099511628211 511 (y * 1099511628211 % 2 ^ 64) (z * 1099511628211 % 2 ^ 64)
second_64 h k y z yh zk far = record {
  c = far.c;
  d = far.d;
  e = y % 256 + k % 256;
  f = z % 256 + h % 256;
  c_byte = far.c_byte;
  d_byte = far.d_byte;
  e_small = omega arith;
  f_small = omega arith;
  differ = far.differ;
  apart = omega (arith, far.apart);
}

third_64 : (h k y z : ℕ) → y / 256 ≡ h / 256 → z / 256 ≡ k / 256 → TwoBytes (2 ^ 64) (870 * 2 ^ 40 + 189225) 1099511628211 511 h k → y ≢ z
third_64 h k y z yh zk far = λ e. far.differ (omega (arith, far.apart))

-- ---- the steps

next_32 : (n h k a b : ℕ) → suc n < 2 → h < 2 ^ 32 → k < 2 ^ 32 → a < 256 → b < 256 → Fnv32Apart n h k
    → Fnv32Apart (suc n) (fnv1a32_step h a) (fnv1a32_step k b)
next_32 zero h k a b fits hs ks sa sb far = λ same.
    second_32 h k (bit_xor h a) (bit_xor k b) (kept h a sa) (kept k b sb) far
    (told fnv1a32_product (bit_xor h a) (bit_xor k b) (xored_32 h a hs sa) (xored_32 k b ks sb) same)
next_32 (suc n) h k a b fits hs ks sa sb far = absurd (omega arith)

different_32 : (n h k : ℕ) → Fnv32Apart n h k → h ≢ k
different_32 zero h k far = λ e. far.differ (omega (arith, far.apart))
different_32 (suc n) h k far = far

pub fnv1a32_separates : Separates fnv1a32_step IsState32 2 0 Fnv32Apart
fnv1a32_separates = separates fnv1a32_facts (first (2 ^ 32) 16777619) next_32 different_32

next_64 : (n h k a b : ℕ) → suc n < 3 → h < 2 ^ 64 → k < 2 ^ 64 → a < 256 → b < 256 → Fnv64Apart n h k
    → Fnv64Apart (suc n) (fnv1a64_step h a) (fnv1a64_step k b)
next_64 zero h k a b fits hs ks sa sb far = second_64 h k (bit_xor h a) (bit_xor k b) (kept h a sa) (kept k b sb) far
next_64 (suc zero) h k a b fits hs ks sa sb far = λ same.
    third_64 h k (bit_xor h a) (bit_xor k b) (kept h a sa) (kept k b sb) far
    (told fnv1a64_product (bit_xor h a) (bit_xor k b) (xored_64 h a hs sa) (xored_64 k b ks sb) same)
next_64 (suc (suc n)) h k a b fits hs ks sa sb far = absurd (omega arith)

different_64 : (n h k : ℕ) → Fnv64Apart n h k → h ≢ k
different_64 zero h k far = λ e. far.differ (omega (arith, far.apart))
different_64 (suc zero) h k far = λ e. far.differ (omega (arith, far.apart))
different_64 (suc (suc n)) h k far = far

pub fnv1a64_separates : Separates fnv1a64_step IsState64 3 0 Fnv64Apart
fnv1a64_separates = separates fnv1a64_facts (first (2 ^ 64) 1099511628211) next_64 different_64
