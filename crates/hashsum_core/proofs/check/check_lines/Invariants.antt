use Rattle.hashsum_core.proofs.Common.{◌≡◌, [], writer_buffer, writer_contents}
use Rattle.hashsum_core.proofs.ListLemmas.{SoFar}
use Rattle.hashsum_core.proofs.check.check_lines.Given as goal

-- what came of the lines so far is written, not held back, and counted
abbrev pub invariant-loop-number : goal.invariant-loop-number
invariant-loop-number g l = record {
  told : SoFar l.kinds l.checking (g.F.Folder.opens l.folder) l.list (g.B.Read.remaining l.fn.lines) (g.B.Read.remaining l.lines)
      (writer_contents g.W.Write.contents l.fn.w) (writer_contents g.W.Write.contents l.w) l.counts;
  flushed : writer_buffer l.fn.w ≡ [] → writer_buffer l.w ≡ [];
}
