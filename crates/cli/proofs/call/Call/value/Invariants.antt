use Rattle.cli.proofs.Common.{◌≡◌, fold, drop, option_map, sayings, value_after, value_of}
use Rattle.cli.proofs.call.Call.value.Given as goal

-- the sayings that are left make of the last value what all make of none
abbrev pub invariant-loop-said : goal.invariant-loop-said
invariant-loop-said l =
    fold (value_after l.name) (option_map (λ value. value.now) l.last) (sayings (drop l.said-index l.said-items))
    ≡ value_of l.name (sayings l.said-items)
