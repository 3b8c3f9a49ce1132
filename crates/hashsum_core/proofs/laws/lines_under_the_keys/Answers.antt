use Rattle.hashsum_core.proofs.AskedLemmas.{under_poly61, under_siphash24}
use Rattle.hashsum_core.proofs.laws.lines_under_the_keys.Goals as goal

pub returns-clause-poly61 : goal.returns-clause-poly61
returns-clause-poly61 g c folder call asks ended = under_poly61 (g.F.Folder.opens folder) call asks ended

pub returns-clause-siphash24 : goal.returns-clause-siphash24
returns-clause-siphash24 g c folder call asks ended = under_siphash24 (g.F.Folder.opens folder) call asks ended
