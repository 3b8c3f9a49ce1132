use Rattle.hash_lines.proofs.Common.{nat_tests, common_steps}
use Rattle.hash_lines.proofs.Lemmas.{eqb-true, none_shown, arith}
use Rattle.hash_lines.proofs.parse.name_of.Goals as goal

pub returns-then-is_empty : goal.returns-then-is_empty
returns-then-is_empty c = grind (arith, nat_tests, common_steps, none_shown, eqb-true)
