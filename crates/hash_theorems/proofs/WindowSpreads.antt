-- How far apart two states are, modulo m, as products of a step's multiplier with small differences.
use Rattle.std.proofs.lemmas.Grind.{common_steps}
use Rattle.std.proofs.lemmas.Bool.Decides.{nat_tests}
use Rattle.std.proofs.Common.{◌≡◌, ℕ, suc, ◌+◌, ◌*◌, ◌/◌, ◌%◌, ◌^◌, ◌<◌, ◌≢◌, arith}
use Rattle.hash_laws.proofs.WindowLemmas.{Separates}
use Rattle.std.proofs.Math.Nat.{mod-add-mod}
use Rattle.hash_laws.specs.StepFacts.{StepFacts}

abbrev pub IsState32 : ℕ → Type 0
IsState32 s = s < 2 ^ 32

abbrev pub IsState64 : ℕ → Type 0
IsState64 s = s < 2 ^ 64

-- modulo m, h less k is p * (c - d) for two different bytes
pub record OneByte (m p h k : ℕ) : Type 0 where
  pub c : ℕ
  pub d : ℕ
  pub c_byte : c < 256
  pub d_byte : d < 256
  pub differ : c ≢ d
  pub apart : (h + p * d) % m ≡ (k + p * c) % m

-- modulo m, h less k is p * (c - d) + q * (e - f), for two different bytes c and d, and e and f below a limit
pub record TwoBytes (m p q limit h k : ℕ) : Type 0 where
  pub c : ℕ
  pub d : ℕ
  pub e : ℕ
  pub f : ℕ
  pub c_byte : c < 256
  pub d_byte : d < 256
  pub e_small : e < limit
  pub f_small : f < limit
  pub differ : c ≢ d
  pub apart : (h + p * d + q * f) % m ≡ (k + p * c + q * e) % m

-- two states that differ within their lowest byte, each times p
pub OneByte-times : (m p h y z : ℕ) → y / 256 ≡ h / 256 → z / 256 ≡ h / 256 → y ≢ z → OneByte m p (y * p % m) (z * p % m)
OneByte-times m p h y z yh zh ne =
    let sums : y + z % 256 ≡ z + y % 256 = omega arith in
    let first : y * p + p * (z % 256) ≡ (y + z % 256) * p = omega arith in
    let second : z * p + p * (y % 256) ≡ (z + y % 256) * p = omega arith in
    grind (arith, nat_tests, common_steps, mod-add-mod (y * p) m (p * (z % 256)), mod-add-mod (z * p) m (p * (y % 256)))

-- a step on numbers below a bound that separates them by neighbouring bytes
pub separates : {step : ℕ → ℕ → ℕ} {bound places : ℕ} {Apart : ℕ → ℕ → ℕ → Type 0} → StepFacts step bound 256
    → ((h a b : ℕ) → a < 256 → b < 256 → a ≢ b → Apart 0 (step h a) (step h b))
    → ((n h k a b : ℕ) → suc n < places → h < bound → k < bound → a < 256 → b < 256 → Apart n h k → Apart (suc n) (step h a) (step k b))
    → ((n h k : ℕ) → Apart n h k → h ≢ k)
    → Separates step (λ h. h < bound) places 0 Apart
separates facts first next apart = grind (arith, nat_tests, common_steps)
