use Rattle.std.proofs.Common.{◌∙◌, ap, rules, ◌≡◌}
use Rattle.std.specs.Iterator.Adapters.{rev_source}
use Rattle.std.specs.Slice.Iter.{iter_rest}
use Rattle.hash_laws.specs.ByteLaws.{undoing_none, undoing_more, undoing_all, undone}
use Rattle.hash_laws.specs.TextLaws.{IsText-from_slice}
use Rattle.hash_laws.proofs.rules.byte_hasher.ByteHasherUndo.unwrite.Goals as goal

pub loop-byte-init : goal.loop-byte-init
loop-byte-init g c =
    let whole : iter_rest (rev_source c.into_iter-byte-iterator.result) ≡ c.args.piece.now = cc in
    undoing_none g.R.StepRule.step g.R.StepRule.bound g.R.ByteRule.after g.met.R.ByteRule.is_fold _ _ _ whole (search rules)

pub loop-byte-preserved : goal.loop-byte-preserved
loop-byte-preserved g c =
    undoing_more g.R.StepRule.step g.R.StepRule.bound g.R.ByteRule.after g.met.R.ByteRule.is_fold _ _ _ _ _ _ _ c.in-Some.ensures.steps
    c.unstep.ensures.in_range c.unstep.ensures.back c.loop-byte.invariant

pub returns-clause-back : goal.returns-clause-back
returns-clause-back g c =
    undoing_all g.R.ByteRule.after g.R.StepRule.bound _ _ _ _ c.in-None.ensures.steps.0 c.loop-byte.invariant
    ∙ ap g.R.StepRule.number c.self.view_is

pub returns-clause-undone : goal.returns-clause-undone
returns-clause-undone g c =
    let facts = g.met.R.UndoRule.facts in
    undone g.R.StepRule.step g.R.StepRule.bound g.R.ByteRule.after g.met.R.ByteRule.is_fold facts.in_range facts.state_injective
    _ _ _ c.loop-byte.invariant.in_range (IsText-from_slice _ c.type_inv.piece) (returns-clause-back g c)
