use Rattle.std.specs.Io.KnownBytes.{Keeps}
use Rattle.streams.proofs.tries.read_some.Given as goal

-- a read that fails takes nothing
abbrev pub invariant-loop-n : goal.invariant-loop-n
invariant-loop-n g l = Keeps (g.R.Read.remaining l.initial.r) (g.R.Read.remaining l.r)

abbrev pub decreases-loop-n : goal.decreases-loop-n
decreases-loop-n g l = l.left
