use Rattle.hash_lines.proofs.Lemmas.{arith, below_more, sym, ◌∙◌, inl, inr, TellsBody, TellsOf, TellsUntagged, IfOk-weaker, get_or_default, found_as}
use Rattle.hash_lines.proofs.parse.body_entry.Goals as goal

pub loop-tagged-init : goal.loop-tagged-init
loop-tagged-init c = λ k below. absurd (omega arith)

pub loop-tagged-preserved : goal.loop-tagged-preserved
loop-tagged-preserved c =
    below_more _ c.loop-tagged.tagged-index c.loop-tagged.invariant
    (λ other is name number tells.
    let item = sym is ∙ get_or_default c.args.kinds.now c.loop-tagged.tagged-index other _ (omega arith) in
    (rw c.in_default.is at c.in_ok-entry.ensures) other name number (item, tells))

pub returns : goal.returns
returns c =
    let kinds = c.args.kinds.now in
    let body = c.args.body.now in
    IfOk-weaker c.untagged_entry.result _ _
    (found_as (TellsOf c.args.kind TellsUntagged c.args.escapes) (TellsBody kinds c.args.kind c.args.escapes) body body
    (λ other name number tells. inr tells) (λ other name number tells. elim tells [
      | inl tagged ↦ absurd (c.loop-tagged.invariant tagged.0.0 (omega (arith, tagged.0.1)) other tagged.0.2 name number tagged.1)
      | inr untagged ↦ untagged
    ])) c.untagged_entry.ensures
