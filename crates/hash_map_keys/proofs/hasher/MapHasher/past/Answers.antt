use Rattle.std.proofs.lemmas.Grind.{common_steps}
use Rattle.std.proofs.lemmas.Bool.Decides.{nat_tests}
use Rattle.hash_map_keys.proofs.Common.{arith, eqb-true, nil_from_length}
use Rattle.hash_map_keys.proofs.Shares.{first_part, no_part, rest_same}
use Rattle.hash_map_keys.proofs.hasher.MapHasher.past.Goals.{then-self-lt128, else-self-lt128}
use Rattle.hash_map_keys.proofs.hasher.MapHasher.past.Goals as goal

pub returns-then-not-is_empty : goal.returns-then-not-is_empty
returns-then-not-is_empty c = grind (arith, nat_tests, common_steps, first_part, no_part)

pub returns-else-not-is_empty : goal.returns-else-not-is_empty
returns-else-not-is_empty c = grind (arith, nat_tests, common_steps, nil_from_length, eqb-true, first_part, rest_same, no_part)
