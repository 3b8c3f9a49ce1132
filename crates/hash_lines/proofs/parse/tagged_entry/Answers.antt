use Rattle.hash_lines.proofs.Lemmas.{digits_of, ShowsTagged, IfOk-weaker, tagged_shown, found_by, name_in, width_in}
use Rattle.hash_lines.proofs.parse.tagged_entry.Goals as goal

pub returns-in-Some : goal.returns-in-Some
returns-in-Some c =
    let kind = c.args.kind in
    let body = c.args.body.now in
    let here = rw (c.as_bytes.ensures.value, c.name.ensures, c.digits.ensures.value, c.width.ensures) at c.in-Some.ensures in
    IfOk-weaker c.entry_of.result _ _
    (found_by kind c.args.escapes (λ k s n text. ShowsTagged (name_in k) (digits_of (width_in k)) s n text) body
    (λ xs ys a b one other. tagged_shown (name_in kind) (digits_of (width_in kind)) a b xs ys body one other)
    c.in-Some.shown.now c.in-Some.number here) c.entry_of.ensures

pub returns-in-None : goal.returns-in-None
returns-in-None c = λ other name number (is, (shown, named, tells)).
    (rw (c.as_bytes.ensures.value, c.name.ensures, c.digits.ensures.value, c.width.ensures) at c.in-None.ensures) shown number (rw is at tells)
