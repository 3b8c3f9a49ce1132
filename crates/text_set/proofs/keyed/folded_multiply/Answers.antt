use Rattle.text_set.proofs.Common.{refl, folded_multiply}
use Rattle.text_set.proofs.keyed.folded_multiply.Goals as goal

pub returns : goal.returns
unfolding folded_multiply
returns c = refl
