use Rattle.hash_writes.proofs.Common.{ℕ, ◌≡◌, List, ◌++◌, take, IsText, joined_written}
use Rattle.hash_writes.proofs.writes.run_writes_streamed.Given as goal

-- the writes so far count as one
abbrev pub invariant-loop-write : goal.invariant-loop-write
invariant-loop-write g l =
    let H = g.H.Piecewise in
    let so_far = joined_written (take l.write-index l.writes) in
    record {
      stands : (from text : List ℕ) → g.H.Streamed.stands_at l.initial.h from text → g.H.Streamed.stands_at l.h from (text ++ so_far);
      one : H.in_range (H.state l.initial.h) → H.state l.h ≡ H.after (H.state l.initial.h) so_far;
      text : IsText so_far;
    }
