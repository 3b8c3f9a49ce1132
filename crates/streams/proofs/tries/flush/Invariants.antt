use Rattle.std.specs.Io.Buffered.{writer_contents}
use Rattle.std.specs.Io.KnownBytes.{Keeps}
use Rattle.streams.proofs.tries.flush.Given as goal

abbrev pub invariant-loop-error : goal.invariant-loop-error
invariant-loop-error g l = Keeps (writer_contents g.W.Write.contents l.initial.w) (writer_contents g.W.Write.contents l.w)

abbrev pub decreases-loop-error : goal.decreases-loop-error
decreases-loop-error g l = l.left
