use Rattle.std.proofs.Common.{◌≡◌, take}
use Rattle.hash_laws.specs.Recurrence.{recurrence}
use Rattle.hash_laws.proofs.rules.texts.in_turn.Given as goal

abbrev pub invariant-loop-byte : goal.invariant-loop-byte
invariant-loop-byte g l = g.R.StepRule.number l.state ≡ recurrence g.R.StepRule.step (g.R.StepRule.number l.initial.state)
    (take l.byte-index l.bytes)
