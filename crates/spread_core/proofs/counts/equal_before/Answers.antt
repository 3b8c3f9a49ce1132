use Rattle.spread_core.proofs.Common.{◌-◌, sym, arith}
use Rattle.spread_core.proofs.CollisionLemmas.{equal_none}
use Rattle.spread_core.proofs.counts.equal_before.Goals as goal

pub returns-else-hashes-place : goal.returns-else-hashes-place
returns-else-hashes-place c =
    sym (equal_none c.args.hashes.now c.args.place (c.args.place - 1) c.requires.order (omega arith) c.requires.within
    c.if-hashes-place.false)
