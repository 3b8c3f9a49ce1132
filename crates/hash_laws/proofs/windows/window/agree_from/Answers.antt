use Rattle.hash_laws.proofs.OneGroup.{AgreeFrom-iff-eq}
use Rattle.hash_laws.proofs.windows.window.agree_from.Goals as goal

pub returns-else-place-x : goal.returns-else-place-x
returns-else-place-x c = AgreeFrom-iff-eq c.args.x.now c.args.y.now c.args.place c.eq.result c.requires c.eq.ensures
