use Rattle.hash_ring.proofs.Common.{◌≡◌, ◌++◌, length, take, points_of}
use Rattle.hash_ring.proofs.push_points.Given as goal

abbrev pub invariant-loop-number : goal.invariant-loop-number
invariant-loop-number g l = record {
  begins : take (length l.name) l.text.items ≡ l.name;
  pushed : l.points.items ≡ l.initial.points.items ++ points_of g.H.Piecewise.hash_of (l.name, l.number) l.index;
}
