use Rattle.cuts_core.proofs.Common.{CountsChunks}
use Rattle.cuts_core.proofs.CutLemmas.{after_any}
use Rattle.cuts_core.proofs.TallyLemmas.{counted_file, counts_none}
use Rattle.cuts_core.proofs.tally.count_file.Goals as goal

pub returns-clause-kind : goal.returns-clause-kind
returns-clause-kind g c =
    after_any CountsChunks c.args.cuts.now (g.F.Folder.opens c.args.folder.now c.args.name.now) c.args.tally.now c.cut_file.new.sink
    (counts_none c.args.tally.now) _ (λ given refused holds. holds.0) c.cut_file.result c.cut_file.ensures

pub returns-clause-counted : goal.returns-clause-counted
returns-clause-counted g c =
    counted_file c.args.cuts.now (g.F.Folder.opens c.args.folder.now c.args.name.now) c.args.tally.now c.cut_file.new.sink
    c.cut_file.result c.cut_file.ensures
