use Rattle.hash_writes.proofs.Common.{◌∙◌, ap}
use Rattle.hash_writes.proofs.KeyLemmas.{fold-byte_writes}
use Rattle.hash_writes.proofs.build.hash_one_slice_in_writes.Goals as goal

pub returns : goal.returns
returns g c = let H = g.H.Piecewise in c.hash_one.ensures.defined ∙ ap H.answer (fold-byte_writes H.after _ c.args.key.now)
