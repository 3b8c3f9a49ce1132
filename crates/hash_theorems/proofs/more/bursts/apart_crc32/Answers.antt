use Rattle.hash_theorems.proofs.MoreCommon.{refl, ieee, window_tells_apart}
use Rattle.hash_theorems.proofs.Crc32Bursts.{crc_apart}
use Rattle.hash_theorems.proofs.more.bursts.apart_crc32.Goals as goal

pub returns-clause-differ : goal.returns-clause-differ
returns-clause-differ c = window_tells_apart (crc_apart ieee refl) c.args.x.now c.args.y.now c.type_inv.x c.type_inv.y _ c.is_window.ensures
