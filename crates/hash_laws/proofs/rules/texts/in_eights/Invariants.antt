use Rattle.std.proofs.Common.{◌≡◌, fold, take}
use Rattle.hash_laws.specs.Recurrence.{recurrence}
use Rattle.hash_laws.proofs.rules.texts.in_eights.Given as goal

abbrev pub invariant-loop-eight : goal.invariant-loop-eight
invariant-loop-eight g l =
    g.R.StepRule.number l.word ≡ fold (recurrence g.R.StepRule.step) (g.R.StepRule.number l.initial.word) (take l.eight-index l.eights)
