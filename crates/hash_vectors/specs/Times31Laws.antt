-- The step of Times31 stays in range and is injective.
use Rattle.std.proofs.Common.{◌^◌, arith}
use Rattle.hashers.specs.StepFacts.{StepFacts}
use Rattle.hash_vectors.specs.Times31.{times31_step}

pub times31_facts : StepFacts times31_step (2 ^ 32) 256
times31_facts = record {
  in_range = λ h b known below. omega arith;
  state_injective = λ h k b hs ks below same. omega arith;
  item_injective = λ h a b known a_byte b_byte same. omega arith;
}
