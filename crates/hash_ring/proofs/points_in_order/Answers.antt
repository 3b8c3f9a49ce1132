use Rattle.hash_ring.proofs.Lemmas.{in_order}
use Rattle.hash_ring.proofs.points_in_order.Goals as goal

pub returns-clause-ordered : goal.returns-clause-ordered
returns-clause-ordered g c = in_order _ c.sort_unstable.ensures.sorted
