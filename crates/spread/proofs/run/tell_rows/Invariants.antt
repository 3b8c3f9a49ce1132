use Rattle.std.proofs.Common.{◌≡◌, []}
use Rattle.std.specs.Io.Buffered.{writer_buffer}
use Rattle.spread.proofs.run.tell_rows.Given as goal

-- nothing of the rows so far is held back
abbrev pub invariant-loop-done : goal.invariant-loop-done
invariant-loop-done l = writer_buffer l.fn.w ≡ [] → writer_buffer l.w ≡ []
