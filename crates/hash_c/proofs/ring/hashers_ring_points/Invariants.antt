use Rattle.hash_c.proofs.Common.{◌≡◌, length, take, hash_at, points_of}
use Rattle.hash_c.proofs.ring.hashers_ring_points.Given as goal

abbrev pub invariant-loop-number : goal.invariant-loop-number
invariant-loop-number l = record {
  long : length l.text ≡ length l.initial.text;
  name : take l.name l.text ≡ take l.name l.initial.text;
  done : take l.number l.points ≡ points_of (hash_at l.kind) (take l.name l.initial.text, l.number) l.node;
}
