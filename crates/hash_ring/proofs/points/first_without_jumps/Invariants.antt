use Rattle.hash_ring.proofs.Lemmas.{◌+◌, ◌≤◌, length, IsBefore, AllPairs, IsWindow}
use Rattle.hash_ring.proofs.points.first_without_jumps.Given as goal

abbrev pub invariant-loop-size : goal.invariant-loop-size
invariant-loop-size l = record {
  inside : l.first + l.size ≤ length l.points;
  window : AllPairs IsBefore l.points → IsWindow l.points l.place l.first l.size;
}

abbrev pub decreases-loop-size : goal.decreases-loop-size
decreases-loop-size l = l.size
