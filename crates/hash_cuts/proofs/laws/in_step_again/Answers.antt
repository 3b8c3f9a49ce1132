use Rattle.hash_cuts.proofs.Common.{sym, ◌∙◌}
use Rattle.hash_cuts.proofs.InStep.{behind}
use Rattle.hash_cuts.proofs.laws.in_step_again.Goals as goal

pub returns : goal.returns
returns c = λ cuts x y same xs xs' ys ys' sizes first first_joined second second_joined.
    behind cuts sizes xs x same xs' first first_joined ∙ sym (behind cuts sizes ys y same ys' second second_joined)
