use Rattle.hash_ring.proofs.Lemmas.{◌≤◌, ◌^◌, pairs, AreSharesUpto}
use Rattle.hash_ring.proofs.shares_of.Given as goal

abbrev pub invariant-loop-point : goal.invariant-loop-point
invariant-loop-point g l = record {
  so_far : AreSharesUpto g.H.Piecewise.hash_of (pairs l.nodes) l.points l.point-index l.shares.items l.from;
  small : l.from ≤ 2 ^ 64;
}
