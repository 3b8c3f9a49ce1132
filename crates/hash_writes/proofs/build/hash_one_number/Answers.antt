use Rattle.hash_writes.proofs.Common.{◌∙◌, sym}
use Rattle.hash_writes.proofs.build.hash_one_number.Goals as goal

pub returns : goal.returns
returns g c = c.hash_one.ensures.defined ∙ sym (g.met.H.Piecewise.hash_of_is _)
