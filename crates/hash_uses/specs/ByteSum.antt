-- A checksum for tests: the sum of the bytes, modulo 256.
use Rattle.std.proofs.Common.{ℕ, ◌+◌, ◌%◌, List, fold, arith}
use Rattle.hashers.specs.StepFacts.{StepFacts}

abbrev pub byte_sum_step : ℕ → ℕ → ℕ
byte_sum_step h b = (h + b) % 256

-- the sum after a text, from a start
abbrev pub byte_sum_from : ℕ → List ℕ → ℕ
byte_sum_from = fold byte_sum_step

pub byte_sum_facts : StepFacts byte_sum_step 256 256
byte_sum_facts = record {
  in_range = λ h b known below. omega arith;
  state_injective = λ h k b hs ks below same. omega arith;
  item_injective = λ h a b known a_byte b_byte same. omega arith;
}
