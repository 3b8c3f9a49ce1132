use Rattle.dedup_core.proofs.Common.{nat_tests}
use Rattle.dedup_core.proofs.Lemmas.{arith, take_more_set, behind, behind_more, behind_within, found_more, common_steps}
use Rattle.dedup_core.proofs.ahead.look.Goals as goal

pub loop-i-preserved : goal.loop-i-preserved
loop-i-preserved g c = grind (arith, nat_tests, common_steps, take_more_set, behind, behind_more, found_more)

pub overflow_add-line : goal.overflow_add-line
overflow_add-line g c = grind (arith, nat_tests, common_steps, behind_within)
