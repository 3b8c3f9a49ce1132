use Rattle.hash_ring.proofs.Lemmas.{moves_from, not_gone, stays, rules}
use Rattle.hash_ring.proofs.removal_moves_only_its_keys.Goals as goal

pub returns : goal.returns
returns g c = search (rules, moves_from, stays, not_gone)
