use Rattle.dedup_core.proofs.Lemmas.{◌≡◌, [], writer_buffer, writer_contents, SoFar}
use Rattle.dedup_core.proofs.run.take_inputs.Given as goal

-- the inputs before the place are read, and nothing is held back
abbrev pub invariant-loop-place : goal.invariant-loop-place
invariant-loop-place g l =
    SoFar g.R.Read.remaining (g.T.LineTask.output l.eol) (g.T.LineTask.taken l.eol l.task) l.eol l.place l.initial.inputs
    l.inputs l.whole (writer_contents g.W.Write.contents l.fn.w) (writer_contents g.W.Write.contents l.w)
    × (l.unread ≡ []) × (writer_buffer l.w ≡ [])
