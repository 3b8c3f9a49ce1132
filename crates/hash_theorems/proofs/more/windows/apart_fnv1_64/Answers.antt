use Rattle.hash_theorems.proofs.MoreCommon.{window_tells_apart}
use Rattle.hash_theorems.proofs.Fnv1Windows.{fnv1_64_apart}
use Rattle.hash_theorems.proofs.more.windows.apart_fnv1_64.Goals as goal

pub returns-clause-differ : goal.returns-clause-differ
returns-clause-differ c = window_tells_apart fnv1_64_apart c.args.x.now c.args.y.now c.type_inv.x c.type_inv.y _ c.is_window.ensures
