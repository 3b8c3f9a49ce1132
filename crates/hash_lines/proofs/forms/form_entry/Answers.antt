use Rattle.hash_lines.proofs.Lemmas.{IfOk-weaker, IsBlankForm, IsTaggedForm, blank_plain_one, form_found, found_in, tagged_plain_one}
use Rattle.hash_lines.proofs.forms.form_entry.Goals as goal

pub returns : goal.returns
returns c =
    let kinds = c.args.kinds.now in
    let line = c.args.line.now in
    let no_ours = rw c.in_default.is at c.in_ok-entry.ensures in
    let no_tagged = found_in IsTaggedForm kinds c.args.kind line (tagged_plain_one line) _ c.in_ok-tagged_form.ensures _ c.in_ok-entry-2.ensures in
    IfOk-weaker c.plain_entry-2.result _ _
    (λ found tells. form_found kinds c.args.kind line no_ours (rw c.in_default-2.is at no_tagged) found
    (found_in IsBlankForm kinds c.args.kind line (blank_plain_one line) _ c.in_ok-blank_form.ensures found tells)) c.plain_entry-2.ensures
