use Rattle.cli.proofs.Common.{◌≡◌, ◌++◌, map, drop, operands, sayings}
use Rattle.cli.proofs.call.Call.operands.Given as goal

-- those that were found, and those of the sayings that are left
abbrev pub invariant-loop-said : goal.invariant-loop-said
invariant-loop-said l =
    map (λ word. word.now) l.found.items ++ operands (sayings (drop l.said-index l.said-items)) ≡ operands (sayings l.said-items)
