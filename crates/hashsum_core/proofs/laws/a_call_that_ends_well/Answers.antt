use Rattle.hashsum_core.proofs.StatusLemmas.{call_passed}
use Rattle.hashsum_core.proofs.laws.a_call_that_ends_well.Goals as goal

pub returns : goal.returns
returns g c folder call texts written written' outcome works checks ends zero =
    call_passed (g.F.Folder.opens folder) call written written' outcome texts works checks ends zero
