use Rattle.hash_lines.proofs.Lemmas.{digits_of, ShowsUntagged, IfOk-weaker, untagged_shown, found_by, width_in}
use Rattle.hash_lines.proofs.parse.untagged_entry.Goals as goal

pub returns-in-Some : goal.returns-in-Some
returns-in-Some c =
    let kind = c.args.kind in
    let body = c.args.body.now in
    IfOk-weaker c.entry_of.result _ _
    (found_by kind c.args.escapes (λ k s n text. ShowsUntagged (digits_of (width_in k)) s n text) body
    (λ xs ys a b one other. untagged_shown (digits_of (width_in kind)) a b xs ys body one other)
    c.in-Some.shown.now c.in-Some.number (rw (c.digits.ensures.value, c.width.ensures) at c.in-Some.ensures)) c.entry_of.ensures

pub returns-in-None : goal.returns-in-None
returns-in-None c = λ other name number (is, (shown, named, tells)).
    (rw (c.digits.ensures.value, c.width.ensures) at c.in-None.ensures) shown number (rw is at tells)
