use Rattle.hash_ring.proofs.Lemmas.{no_owner}
use Rattle.hash_ring.proofs.no_owner_without_nodes.Goals as goal

pub returns : goal.returns
returns g c = no_owner g.H.Piecewise.hash_of
