use Rattle.spread_core.proofs.Common.{◌≡◌, map, take, filter_map, kind_called}
use Rattle.spread_core.proofs.call.kinds_named.Given as goal

-- the hashes of the names so far
abbrev pub invariant-loop-name : goal.invariant-loop-name
invariant-loop-name l = l.kinds.items ≡ filter_map kind_called (map (λ name. name.now) (take l.name-index l.names))
