use Rattle.hash_theorems.proofs.MoreCommon.{refl, castagnoli, window_tells_apart}
use Rattle.hash_theorems.proofs.Crc32Bursts.{crc_apart}
use Rattle.hash_theorems.proofs.more.bursts.apart_crc32c.Goals as goal

pub returns-clause-differ : goal.returns-clause-differ
returns-clause-differ c = window_tells_apart
    (crc_apart castagnoli refl) c.args.x.now c.args.y.now c.type_inv.x c.type_inv.y _ c.is_window.ensures
