use Rattle.std.proofs.lemmas.Grind.{common_steps}
use Rattle.std.proofs.lemmas.Bool.Decides.{nat_tests}
use Rattle.hash_map_keys.proofs.Common.{arith}
use Rattle.hash_map_keys.proofs.Shares.{begins, number_part, spill_part}
use Rattle.hash_map_keys.proofs.hasher.MapHasher.number.Goals as goal

pub returns-then-self-count : goal.returns-then-self-count
returns-then-self-count c = grind (arith, nat_tests, common_steps, begins)

pub returns-then-self-count-le8 : goal.returns-then-self-count-le8
returns-then-self-count-le8 c = grind (arith, nat_tests, common_steps, number_part)

pub returns-else-self-count-le8 : goal.returns-else-self-count-le8
returns-else-self-count-le8 c = grind (arith, nat_tests, common_steps, spill_part)
