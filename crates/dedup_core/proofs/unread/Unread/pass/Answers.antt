use Rattle.dedup_core.proofs.Common.{nat_tests}
use Rattle.dedup_core.proofs.Lemmas.{arith, length-take, pass_more, common_steps}
use Rattle.dedup_core.proofs.unread.Unread.pass.Goals as goal

pub returns : goal.returns
returns c = grind (arith, nat_tests, common_steps, pass_more, length-take)
