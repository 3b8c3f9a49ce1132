use Rattle.std.proofs.Common.{ℕ, List, ◌≡◌, ◌+◌, ◌++◌, length}
use Rattle.std.specs.Io.KnownBytes.{Appends}
use Rattle.streams.proofs.tries.write_all.Given as goal

-- what is left of the bytes, behind what was written
abbrev pub invariant-loop-rest : goal.invariant-loop-rest
invariant-loop-rest g l =
    (part : List ℕ) × (part ++ l.rest ≡ l.bytes) × Appends (g.W.Write.contents l.initial.w) (g.W.Write.contents l.w) part

abbrev pub decreases-loop-rest : goal.decreases-loop-rest
decreases-loop-rest g l = length l.rest + l.left
