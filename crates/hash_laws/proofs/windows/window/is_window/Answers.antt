use Rattle.hash_laws.proofs.WindowCommon.{refl}
use Rattle.hash_laws.proofs.windows.window.is_window.Goals as goal
use Rattle.hash_laws.proofs.WindowTest.{DifferWithin-iff-eq}

pub returns-else-x-from : goal.returns-else-x-from
returns-else-x-from c =
    DifferWithin-iff-eq c.args.places c.args.mask c.in-Some.from c.args.x.now c.args.y.now c.eq.result c.if-x-y.false
    (c.if-not-agree_under.ensures.0 refl) c.in-Some.ensures.some c.eq.ensures
