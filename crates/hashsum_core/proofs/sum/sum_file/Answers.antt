use Rattle.hashsum_core.proofs.Common.{Some, refl}
use Rattle.hashsum_core.proofs.sum.sum_file.Goals as goal

pub returns-in-Ok-tell_sum-clause-told : goal.returns-in-Ok-tell_sum-clause-told
returns-in-Ok-tell_sum-clause-told g c = (Some c.in-Ok.number, c.in-Ok.ensures, c.in-Ok-tell_sum.ensures.ok, refl)

pub returns-in-Err-tell_sum-clause-told : goal.returns-in-Err-tell_sum-clause-told
returns-in-Err-tell_sum-clause-told g c = (Some c.in-Ok.number, c.in-Ok.ensures, c.in-Err-tell_sum.ensures.err)
