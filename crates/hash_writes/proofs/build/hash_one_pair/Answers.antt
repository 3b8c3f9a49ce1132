use Rattle.hash_writes.proofs.Common.{◌∙◌, ap}
use Rattle.hash_writes.proofs.KeyLemmas.{two_writes, two_texts}
use Rattle.hash_writes.proofs.build.hash_one_pair.Goals as goal

pub returns : goal.returns
returns g c = c.hash_one_joined.ensures (two_texts c.args.key.0 c.args.key.1) ∙ ap g.H.Piecewise.hash_of (two_writes _ _)
