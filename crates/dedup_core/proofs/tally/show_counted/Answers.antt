use Rattle.dedup_core.proofs.Common.{nat_tests}
use Rattle.dedup_core.proofs.Lemmas.{at_ok, arith, common_steps}
use Rattle.dedup_core.proofs.ColumnLemmas.{column_is}
use Rattle.dedup_core.proofs.tally.show_counted.Goals as goal

pub returns : goal.returns
returns c = grind (arith, nat_tests, common_steps, at_ok, column_is)
