use Rattle.std.proofs.Common.{◌≡◌, []}
use Rattle.std.specs.Io.Buffered.{writer_buffer}
use Rattle.spread.proofs.run.tell_chance.Given as goal

-- nothing of the lines so far is held back
abbrev pub invariant-loop-bits : goal.invariant-loop-bits
invariant-loop-bits l = writer_buffer l.fn.w ≡ [] → writer_buffer l.w ≡ []
