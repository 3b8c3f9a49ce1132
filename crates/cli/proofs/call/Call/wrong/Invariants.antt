use Rattle.cli.proofs.Common.{◌≡◌, drop, sayings, wrongs}
use Rattle.cli.proofs.call.Call.wrong.Given as goal

-- nothing was wrong before
abbrev pub invariant-loop-said : goal.invariant-loop-said
invariant-loop-said l = wrongs (sayings l.said-items) ≡ wrongs (sayings (drop l.said-index l.said-items))
