use Rattle.spread_core.proofs.Common.{◌≡◌, drop, find, is_called}
use Rattle.spread_core.proofs.call.first_called.Given as goal

-- the hash is among those that are left
abbrev pub invariant-loop-kind : goal.invariant-loop-kind
invariant-loop-kind l = find (is_called l.name) (drop l.kind-index l.kinds) ≡ find (is_called l.name) l.kinds
