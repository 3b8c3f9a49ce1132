use Rattle.hash_writes.proofs.Common.{rev_source, iter_rest, written}
use Rattle.hash_writes.proofs.WriteLemmas.{TakenBack}
use Rattle.hash_writes.proofs.writes.unrun_writes.Given as goal

abbrev pub invariant-loop-write : goal.invariant-loop-write
invariant-loop-write g l =
    let H = g.H.Piecewise in
    TakenBack written H.in_range H.after (H.state l.initial.h) (H.state l.h) (iter_rest (rev_source l.write-iterator)) l.writes
