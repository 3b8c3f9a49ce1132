use Rattle.hash_laws.specs.ByteLaws.{after_below}
use Rattle.hash_laws.specs.TextLaws.{IsText-from_slice}
use Rattle.hash_laws.proofs.rules.byte_hasher.ByteHasherHasher.write.Goals as goal

pub invariant_of-self : goal.invariant_of-self
invariant_of-self g c =
    rw (c.write.ensures, g.met.R.ByteRule.write_is_after c.self.inside.state c.args.bytes.now)
    (after_below g.R.StepRule.step g.R.StepRule.bound g.R.ByteRule.after g.met.R.ByteRule.is_fold g.met.R.StepRule.step_in_range
    _ _ c.self.invariant (IsText-from_slice _ c.type_inv.bytes))

pub returns-clause-in_range_after : goal.returns-clause-in_range_after
returns-clause-in_range_after g c = invariant_of-self g c
