use Rattle.hash_lines.proofs.Common.{nat_tests, common_steps}
use Rattle.hash_lines.proofs.Lemmas.{front_is, told_apart, arith}
use Rattle.hash_lines.proofs.parse.behind.Goals as goal

pub returns-else-eq : goal.returns-else-eq
returns-else-eq c rest is = grind (arith, nat_tests, common_steps, told_apart, front_is)
