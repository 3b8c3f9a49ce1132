use Rattle.hash_laws.proofs.WindowCommon.{OnTrue_from, IsText-from_slice}
use Rattle.hash_laws.proofs.ChangedByte.{answers_differ}
use Rattle.hash_laws.proofs.windows.changed_byte.apart_by_one.Goals as goal

pub returns-clause-differ : goal.returns-clause-differ
returns-clause-differ g c =
    let H = g.H.Piecewise in
    let laws = g.met.H.Piecewise in
    let undo = g.met.H.Undo in
    let steps = g.met.H.ByteStep in
    OnTrue_from _ _ (λ yes. answers_differ H.in_range H.after H.answer H.hash_of H.fresh laws.fresh_in_range laws.after_in_range
    undo.after_injective steps.byte_injective steps.in_steps undo.answer_injective laws.hash_of_is
    c.args.x.now c.args.y.now (IsText-from_slice _ c.type_inv.x) (IsText-from_slice _ c.type_inv.y) (c.differ_at_one_place.ensures.0 yes))
