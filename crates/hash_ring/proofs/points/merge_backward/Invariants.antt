use Rattle.hash_ring.proofs.Lemmas.{◌≡◌, ◌+◌, ◌≤◌, map, take, drop, opened_up, IsMerged}
use Rattle.hash_ring.proofs.points.merge_backward.Given as goal

abbrev pub invariant-loop-left : goal.invariant-loop-left
invariant-loop-left l = record {
  within : l.left ≤ l.others;
  front : take l.left l.points ≡ take l.left l.initial.points;
  merged : IsMerged (map (opened_up l.index) (take l.others l.initial.points)) l.added (drop (l.left + l.right) l.points) l.left l.right;
}

abbrev pub decreases-loop-left : goal.decreases-loop-left
decreases-loop-left l = l.left + l.right
