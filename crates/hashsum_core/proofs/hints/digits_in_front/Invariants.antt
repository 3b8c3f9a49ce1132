use Rattle.hashsum_core.proofs.Common.{◌≡◌, drop}
use Rattle.hashsum_core.specs.Hints.{digits_from, digits_in_front}
use Rattle.hashsum_core.proofs.hints.digits_in_front.Given as goal

-- all bytes so far are digits
abbrev pub invariant-loop-at : goal.invariant-loop-at
invariant-loop-at l = digits_in_front l.line ≡ digits_from l.at (drop l.at l.line)
