use Rattle.hash_lines.proofs.Lemmas.{◌≡◌, false, true, inl, inr, sym, ◌∙◌, IfOk-weaker, IsSfvForm, found_in, sfv_plain_one, so_found, start_one}
use Rattle.hash_lines.proofs.forms.parse_form.Goals as goal

pub returns-then-sfv : goal.returns-then-sfv
returns-then-sfv c =
    let kinds = c.args.kinds.now in
    let rest = c.trim_ascii_start-rest.result.now in
    let none = rw c.in_default.is at c.in_ok-entry.ensures in
    IfOk-weaker c.plain_entry.result _ _
    (λ found tells. so_found kinds c.args.kind c.args.line.now c.args.sfv rest c.if-sfv.true c.trim_ascii_start-rest.ensures.value none found
    (found_in IsSfvForm kinds c.args.kind rest (sfv_plain_one rest) _ c.in_ok-sfv_form.ensures found tells)) c.plain_entry.ensures

pub returns : goal.returns
returns c = λ other name number (behind, also, tells).
    let none = rw c.in_default.is at c.in_ok-entry.ensures in
    elim tells [
      | inl here ↦ absurd (none other name number (rw (start_one c.args.line.now behind _ also c.trim_ascii_start-rest.ensures.value) at here))
      | inr sfv ↦ (let clash : false ≡ true = sym c.if-sfv.false ∙ sfv.0 in cc)
    ]
