use Rattle.hash_ring.proofs.Lemmas.{sorted_exactly}
use Rattle.hash_ring.proofs.points.are_in_order.Goals as goal

pub returns : goal.returns
returns c = sorted_exactly c.args.points.now c.is_sorted.result c.is_sorted.ensures.cases
