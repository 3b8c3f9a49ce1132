use Rattle.hash_theorems.proofs.MoreCommon.{window_tells_apart}
use Rattle.hash_theorems.proofs.Djb2AddWindow.{djb2_add_apart}
use Rattle.hash_theorems.proofs.more.windows.apart_djb2_add.Goals as goal

pub returns-clause-differ : goal.returns-clause-differ
returns-clause-differ c = window_tells_apart djb2_add_apart c.args.x.now c.args.y.now c.type_inv.x c.type_inv.y _ c.is_window.ensures
