use Rattle.hash_ring.proofs.Lemmas.{◌<◌, pairs, AreThese}
use Rattle.hash_ring.proofs.all_points.Given as goal

abbrev pub invariant-loop-index : goal.invariant-loop-index
invariant-loop-index g l = AreThese g.H.Piecewise.hash_of (pairs l.nodes) (λ i. i < l.index) l.points.items
