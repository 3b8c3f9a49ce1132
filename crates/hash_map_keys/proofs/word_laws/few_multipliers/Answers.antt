use Rattle.hash_map_keys.proofs.Multipliers.{few_high, few_low}
use Rattle.hash_map_keys.proofs.word_laws.few_multipliers.Goals as goal

pub returns-clause-place : goal.returns-clause-place
returns-clause-place c = few_low

pub returns-clause-high_bits : goal.returns-clause-high_bits
returns-clause-high_bits c = few_high
