-- Why two texts that differ within three places have different sdbm hashes.
use Rattle.hashers.proofs.Common.{◌≡◌, ℕ, zero, suc, ◌+◌, ◌*◌, ◌%◌, ◌^◌, ◌<◌, ◌≢◌, arith, sdbm_step, sdbm_facts, Separates}
use Rattle.hash_theorems.proofs.WindowSpreads.{IsState32, OneByte, TwoBytes, separates}

abbrev pub SdbmApart : ℕ → ℕ → ℕ → Type 0
SdbmApart zero = OneByte (2 ^ 32) 1
SdbmApart (suc zero) = TwoBytes (2 ^ 32) 65599 1 256
SdbmApart (suc (suc n)) = λ h k. h ≢ k

-- the third place can't make up for the first two
third_place : (h k a b c d e f : ℕ) → a < 256 → b < 256 → c < 256 → d < 256 → e < 256 → f < 256
    → (h + 65599 * d + 1 * f) % 2 ^ 32 ≡ (k + 65599 * c + 1 * e) % 2 ^ 32 → sdbm_step h a ≡ sdbm_step k b → c ≡ d
third_place h k a b c d e f sa sb sc sd se sf apart same =
    let whole : 8261505 * d + 65599 * f + b ≡ 8261505 * c + 65599 * e + a = omega arith in
    omega arith

next_place : (n h k a b : ℕ) → suc n < 3 → a < 256 → b < 256 → SdbmApart n h k → SdbmApart (suc n) (sdbm_step h a) (sdbm_step k b)
next_place zero h k a b fits sa sb far = record {
  c = far.c;
  d = far.d;
  e = a;
  f = b;
  c_byte = far.c_byte;
  d_byte = far.d_byte;
  e_small = sa;
  f_small = sb;
  differ = far.differ;
  apart = omega (arith, far.apart);
}
next_place (suc zero) h k a b fits sa sb far =
    λ same. far.differ (third_place h k a b far.c far.d far.e far.f sa sb far.c_byte far.d_byte far.e_small far.f_small far.apart same)
next_place (suc (suc n)) h k a b fits sa sb far = absurd (omega arith)

different : (n h k : ℕ) → SdbmApart n h k → h ≢ k
different zero h k far = λ e. far.differ (omega (arith, far.apart))
different (suc zero) h k far = λ e. far.differ (omega (arith, far.apart))
different (suc (suc n)) h k far = far

pub sdbm_separates : Separates sdbm_step IsState32 3 0 SdbmApart
sdbm_separates = separates sdbm_facts
    (λ h a b sa sb ne. record { c = a; d = b; c_byte = sa; d_byte = sb; differ = ne; apart = omega arith })
    (λ n h k a b fits hs ks. next_place n h k a b fits) different
