use Rattle.hashers.proofs.Collisions.{djb2_apart}
use Rattle.hashers.proofs.Common.{window_tells_apart}
use Rattle.hashers.proofs.windows.apart_djb2.Goals as goal

pub returns-clause-differ : goal.returns-clause-differ
returns-clause-differ c = window_tells_apart djb2_apart c.args.x.now c.args.y.now c.type_inv.x c.type_inv.y _ c.is_window.ensures
