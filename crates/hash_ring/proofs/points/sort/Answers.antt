use Rattle.hash_ring.proofs.Lemmas.{ArePoints-permutation, in_order, rules}
use Rattle.hash_ring.proofs.points.sort.Goals as goal

pub returns-clause-ordered : goal.returns-clause-ordered
returns-clause-ordered c = in_order _ c.sort_unstable.ensures.sorted

pub returns-clause-ring : goal.returns-clause-ring
returns-clause-ring c = search (rules, ArePoints-permutation, in_order)
