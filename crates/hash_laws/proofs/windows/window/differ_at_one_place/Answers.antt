use Rattle.hash_laws.proofs.WindowTest.{DifferWithin-iff-one}
use Rattle.hash_laws.proofs.windows.window.differ_at_one_place.Goals as goal

pub returns : goal.returns
returns c = DifferWithin-iff-one c.args.x.now c.args.y.now c.is_window.result c.is_window.ensures
