-- The step of djb2 with a sum stays in range and is injective, and what undoes it.
use Rattle.std.proofs.Common.{◌≡◌, ℕ, ◌+◌, ◌-◌, ◌*◌, ◌%◌, ◌^◌, ◌<◌, arith}
use Rattle.hash_laws.specs.StepFacts.{StepFacts}
use Rattle.hash_more.specs.Djb2Add.{djb2_add_step}

pub djb2_add_facts : StepFacts djb2_add_step (2 ^ 32) 256
djb2_add_facts = record {
  in_range = λ h b hs sb. omega arith;
  state_injective = λ h k b hs ks sb e. omega arith;
  item_injective = λ h a b hs sa sb e. omega arith;
}

pub djb2_add_back : (h b : ℕ) → h < 2 ^ 32 → b < 256 → djb2_add_step ((h + (2 ^ 32 - b)) % 2 ^ 32 * 1041204193 % 2 ^ 32) b ≡ h
djb2_add_back h b hs sb = omega arith
