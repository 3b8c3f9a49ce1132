use Rattle.hash_ring.proofs.Lemmas.{moves_to}
use Rattle.hash_ring.proofs.new_node_moves_keys_only_to_it.Goals as goal

pub returns : goal.returns
returns g c = moves_to g.H.Piecewise.hash_of
