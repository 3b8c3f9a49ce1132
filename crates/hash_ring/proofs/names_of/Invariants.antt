use Rattle.hash_ring.proofs.Common.{◌≡◌, take, texts, names_at, pairs}
use Rattle.hash_ring.proofs.names_of.Given as goal

abbrev pub invariant-loop-at : goal.invariant-loop-at
invariant-loop-at l = texts l.names.items ≡ names_at (pairs l.nodes) (take l.at l.indices)
