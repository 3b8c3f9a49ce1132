use Rattle.hashsum_core.proofs.Common.{true, All-contains, operands, files_or, asked, checking_of, kinds, taken, HasPassed}
use Rattle.hashsum_core.proofs.TellsLemmas.{kind_is_there, taken_are_tags, told_is_so}
use Rattle.hashsum_core.proofs.laws.what_a_call_is_told_is_so.Goals as goal

pub returns : goal.returns
returns g c folder call ended list is_list kind name number told =
    let opens = g.F.Folder.opens folder in
    let checking = checking_of call ended.keys ended.kind in
    let are = taken_are_tags checking (c.kinds_are_tags.ensures true ended.kind) (kind_is_there (kinds true) (asked call) ended.kind ended.is_asked) in
    told_is_so (taken checking) checking opens are list kind name number
    (All-contains (HasPassed (taken checking) checking opens) (files_or (operands call)) list ended.passed is_list) told
