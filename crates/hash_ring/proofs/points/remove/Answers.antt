use Rattle.hash_ring.proofs.Lemmas.{all_gone_over, ring_without, rules}
use Rattle.hash_ring.proofs.points.remove.Goals as goal

pub returns-clause-kept : goal.returns-clause-kept
returns-clause-kept c = search (rules, all_gone_over)

pub returns-clause-ring : goal.returns-clause-ring
returns-clause-ring c = search (rules, returns-clause-kept, ring_without)
