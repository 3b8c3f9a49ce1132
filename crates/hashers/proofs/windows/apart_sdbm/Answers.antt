use Rattle.hashers.proofs.Collisions.{sdbm_apart}
use Rattle.hashers.proofs.Common.{window_tells_apart}
use Rattle.hashers.proofs.windows.apart_sdbm.Goals as goal

pub returns-clause-differ : goal.returns-clause-differ
returns-clause-differ c = window_tells_apart sdbm_apart c.args.x.now c.args.y.now c.type_inv.x c.type_inv.y _ c.is_window.ensures
