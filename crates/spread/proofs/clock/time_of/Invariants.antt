use Rattle.std.proofs.Common.{◌≡◌}
use Rattle.spread.proofs.clock.time_of.Given as goal

-- the keys stay
abbrev pub invariant-again : goal.invariant-again
invariant-again l = l.hashed.keys ≡ l.initial.hashed.keys
