use Rattle.spread_core.proofs.KeyLemmas.{fixed_all, fixed_more}
use Rattle.spread_core.proofs.keys.read_fixed.Goals as goal

pub returns-then-not-branch : goal.returns-then-not-branch
returns-then-not-branch g c is =
    fixed_all c.args.width _ _ _ _ _ _ c.keys.invariant c.in_ok-read_one.field-0 c.if-not-branch.true c.in_ok-read_one.ensures

pub keys-preserved : goal.keys-preserved
keys-preserved g c =
    fixed_more c.args.width _ _ _ _ _ _ c.keys.invariant c.in_ok-read_one.field-0 c.if-not-branch.false c.in_ok-read_one.ensures
