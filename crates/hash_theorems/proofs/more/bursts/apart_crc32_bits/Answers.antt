use Rattle.hash_theorems.proofs.MoreCommon.{refl, OnTrue_from, IsText-from_slice, ieee}
use Rattle.hash_theorems.proofs.Crc32Bursts.{burst_apart}
use Rattle.hash_theorems.proofs.more.bursts.apart_crc32_bits.Goals as goal

pub returns-clause-differ : goal.returns-clause-differ
returns-clause-differ c =
    OnTrue_from c.is_burst.result _ (λ yes. burst_apart ieee refl c.args.x.now c.args.y.now (IsText-from_slice c.args.x.now c.type_inv.x)
    (IsText-from_slice c.args.y.now c.type_inv.y) (c.is_burst.ensures.0 yes))
