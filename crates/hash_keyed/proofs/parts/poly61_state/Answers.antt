use Rattle.std.proofs.lemmas.Bool.Decides.{nat_tests}
use Rattle.hash_keyed.proofs.Lemmas.{arith, eqb-false, eqb-true, rest-length, state_is, common_steps}
use Rattle.hash_keyed.proofs.parts.poly61_state.Goals as goal

pub returns-then-is_empty : goal.returns-then-is_empty
returns-then-is_empty c = grind (arith, nat_tests, common_steps, eqb-true, rest-length, state_is)

pub returns-else-is_empty : goal.returns-else-is_empty
returns-else-is_empty c = grind (arith, nat_tests, common_steps, eqb-false, rest-length)
