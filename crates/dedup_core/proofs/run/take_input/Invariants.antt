use Rattle.dedup_core.proofs.Lemmas.{ℕ, List, ◌≡◌, [], writer_buffer, writer_contents, IsBare, At, Leads, Reads}
use Rattle.dedup_core.proofs.run.take_input.Given as goal

-- lines were taken, and nothing is held back
abbrev pub invariant-reads : goal.invariant-reads
invariant-reads g l = (ls : List (List ℕ))
    × Reads l.eol (g.R.Read.remaining l.initial.r) (g.R.Read.remaining l.r) l.unread ls × IsBare l.eol l.unread
    × Leads (At (g.T.LineTask.output l.eol) (g.T.LineTask.taken l.eol l.initial.task) (writer_contents g.W.Write.contents l.initial.w))
    (At (g.T.LineTask.output l.eol) (g.T.LineTask.taken l.eol l.task) (writer_contents g.W.Write.contents l.w)) ls
    × (writer_buffer l.w ≡ [])
