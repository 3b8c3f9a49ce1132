use Rattle.std.proofs.Common.{◌∙◌, ◌≡◌, refl, rules}
use Rattle.std.specs.Iterator.Adapters.{rev_source}
use Rattle.std.specs.Slice.Iter.{iter_rest}
use Rattle.hashers.proofs.ByteLaws.{undoing_none, undoing_more, undoing_all, undone}
use Rattle.hashers.proofs.TextLaws.{IsText-from_slice}
use Rattle.hash_uses.specs.ByteSum.{byte_sum_step, byte_sum_from, byte_sum_facts}
use Rattle.hash_uses.proofs.byte_sum.ByteSumUndo.unwrite.Goals as goal

pub loop-byte-init : goal.loop-byte-init
loop-byte-init c =
    let whole : iter_rest (rev_source c.into_iter-byte-iterator.result) ≡ c.args.piece.now = cc in
    undoing_none byte_sum_step 256 byte_sum_from (λ s text known. refl) _ _ _ whole (search rules)

pub loop-byte-preserved : goal.loop-byte-preserved
loop-byte-preserved c =
    undoing_more byte_sum_step 256 byte_sum_from (λ s text known. refl) _ _ _ _ _ _ _ c.in-Some.ensures.steps
    (search rules) (search rules) c.loop-byte.invariant

pub returns-clause-back : goal.returns-clause-back
returns-clause-back c = undoing_all byte_sum_from 256 _ _ _ _ c.in-None.ensures.steps.0 c.loop-byte.invariant
    ∙ c.self.view_is

pub returns-clause-undone : goal.returns-clause-undone
returns-clause-undone c =
    undone byte_sum_step 256 byte_sum_from (λ s text known. refl) byte_sum_facts.in_range byte_sum_facts.state_injective
    _ _ _ c.loop-byte.invariant.in_range (IsText-from_slice _ c.type_inv.piece) (returns-clause-back c)
