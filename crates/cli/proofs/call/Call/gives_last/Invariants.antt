use Rattle.cli.proofs.Common.{◌≡◌, fold, drop, given_last, last_after, sayings}
use Rattle.cli.proofs.call.Call.gives_last.Given as goal

-- the sayings that are left make of what is known so far what all make of nothing
abbrev pub invariant-loop-said : goal.invariant-loop-said
invariant-loop-said l =
    fold (last_after l.name l.other) l.last (sayings (drop l.said-index l.said-items)) ≡ given_last l.name l.other (sayings l.said-items)
