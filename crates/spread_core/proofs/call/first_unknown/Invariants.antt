use Rattle.spread_core.proofs.Common.{◌≡◌, drop, map, find, is_none, kind_called}
use Rattle.spread_core.proofs.call.first_unknown.Given as goal

-- the first one is among those that are left
abbrev pub invariant-loop-name : goal.invariant-loop-name
invariant-loop-name l =
    find (λ name. is_none (kind_called name)) (map (λ name. name.now) (drop l.name-index l.names))
    ≡ find (λ name. is_none (kind_called name)) (map (λ name. name.now) l.names)
