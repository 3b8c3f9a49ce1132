use Rattle.hash_ring.proofs.Common.{◌≡◌, ◌≤◌, ◌++◌, length, take, drop, left_without}
use Rattle.hash_ring.proofs.points.remove.Given as goal

abbrev pub invariant-loop-index : goal.invariant-loop-index
invariant-loop-index l = record {
  within : l.kept ≤ l.index;
  long : length l.points ≡ length l.initial.points;
  all : take l.kept l.points ++ left_without l.gone (drop l.index l.points) ≡ left_without l.gone l.initial.points;
}
