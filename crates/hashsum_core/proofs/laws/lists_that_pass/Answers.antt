use Rattle.hashsum_core.proofs.Common.{refl}
use Rattle.hashsum_core.proofs.PassLemmas.{lists_passed}
use Rattle.hashsum_core.proofs.laws.lists_that_pass.Goals as goal

pub returns : goal.returns
returns g c folder kinds checking lists written written' listed = lists_passed kinds checking (g.F.Folder.opens folder) listed refl
