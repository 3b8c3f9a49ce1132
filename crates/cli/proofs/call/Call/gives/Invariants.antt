use Rattle.cli.proofs.Common.{◌≡◌, drop, given, sayings}
use Rattle.cli.proofs.call.Call.gives.Given as goal

-- it is for the sayings that are left to give it
abbrev pub invariant-loop-said : goal.invariant-loop-said
invariant-loop-said l = given l.name (sayings l.said-items) ≡ given l.name (sayings (drop l.said-index l.said-items))
