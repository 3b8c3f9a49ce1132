use Rattle.hash_theorems.proofs.FxCommon.{arith, le, rotl, pieces, recurrence, common_steps, nat_tests}
use Rattle.hash_theorems.proofs.fx.pieces.cuts_show_in_fx.Goals as goal

pub returns : goal.returns
unfolding le rotl pieces recurrence
returns c = grind (arith, nat_tests, common_steps)
