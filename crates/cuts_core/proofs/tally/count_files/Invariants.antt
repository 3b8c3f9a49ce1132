use Rattle.cuts_core.proofs.Common.{◌≡◌, List, take, map, Cut, IsCounted, sum_by, AreCut, all_given}
use Rattle.cuts_core.proofs.tally.count_files.Given as goal

-- the chunks of the files so far are counted
abbrev pub invariant-loop-name : goal.invariant-loop-name
invariant-loop-name g l = record {
  kind : l.tally.kind ≡ l.fn.tally.kind;
  counted : (files : List Cut) × AreCut l.cuts (g.F.Folder.opens l.folder) (take l.name-index (map (λ n. n.now) l.names)) files l.all
      × IsCounted (sum_by l.fn.tally.kind) (all_given files) l.tally;
}
