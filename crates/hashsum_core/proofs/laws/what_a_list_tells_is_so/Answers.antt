use Rattle.hashsum_core.proofs.TellsLemmas.{line_is_so, told_is_so}
use Rattle.hashsum_core.proofs.laws.what_a_list_tells_is_so.Goals as goal

pub returns-clause-read : goal.returns-clause-read
returns-clause-read g c folder kinds checking list kind name number are passed line is_line told =
    line_is_so kinds checking (g.F.Folder.opens folder) are list line kind name number passed is_line told

pub returns-clause-told : goal.returns-clause-told
returns-clause-told g c folder kinds checking list kind name number are passed told =
    told_is_so kinds checking (g.F.Folder.opens folder) are list kind name number passed told
