use Rattle.hash_ring.proofs.Lemmas.{one_owner}
use Rattle.hash_ring.proofs.one_owner_alone.Goals as goal

pub returns : goal.returns
returns g c = one_owner g.H.Piecewise.hash_of
