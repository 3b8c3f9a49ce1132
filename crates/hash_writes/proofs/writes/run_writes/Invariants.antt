use Rattle.hash_writes.proofs.Common.{◌≡◌, drop, fold, all_written}
use Rattle.hash_writes.proofs.writes.run_writes.Given as goal

abbrev pub invariant-loop-write : goal.invariant-loop-write
invariant-loop-write g l =
    let H = g.H.Piecewise in
    fold H.after (H.state l.h) (all_written (drop l.write-index l.writes)) ≡ fold H.after (H.state l.initial.h) (all_written l.writes)
