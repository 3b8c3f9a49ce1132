use Rattle.hashsum_core.proofs.StatusLemmas.{check_passed}
use Rattle.hashsum_core.proofs.laws.a_check_that_ends_well.Goals as goal

pub returns : goal.returns
returns g c folder checking lists written written' outcome =
    check_passed checking (g.F.Folder.opens folder) lists written written' outcome
