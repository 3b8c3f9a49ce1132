use Rattle.hash_theorems.proofs.MoreCommon.{IsText-from_slice}
use Rattle.hash_theorems.proofs.BurstLemmas.{front_told, no_burst}
use Rattle.hash_theorems.proofs.more.bursts.is_burst.Goals as goal

pub returns-in-None : goal.returns-in-None
returns-in-None c = ((λ yes. cc), (λ differ. absurd (no_burst c.args.x.now c.args.y.now c.in-None.ensures.none differ)))

pub returns-in-Some : goal.returns-in-Some
returns-in-Some c =
    front_told c.in-Some.first c.args.x.now c.args.y.now _ (IsText-from_slice c.args.x.now c.type_inv.x)
    (IsText-from_slice c.args.y.now c.type_inv.y) c.if-x-y.false c.in-Some.ensures.some c.is_burst_from_the_first.ensures
