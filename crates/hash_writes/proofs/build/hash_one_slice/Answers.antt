use Rattle.hash_writes.proofs.Common.{◌∙◌, ap, IsText-from_slice}
use Rattle.hash_writes.proofs.KeyLemmas.{slice_writes, slice_texts}
use Rattle.hash_writes.proofs.build.hash_one_slice.Goals as goal

pub returns : goal.returns
returns g c =
    c.hash_one_joined.ensures (slice_texts _ c.args.key.now (IsText-from_slice c.args.key.now c.type_inv.key))
    ∙ ap g.H.Piecewise.hash_of (slice_writes _ c.args.key.now)
