use Rattle.hash_lines.proofs.Lemmas.{no_mark, no_digits}
use Rattle.hash_lines.proofs.parse.tagged_parts.Goals as goal

pub returns-in_err-shown : goal.returns-in_err-shown
returns-in_err-shown c =
    let rest = c.in_ok-behind_tag.field-0.now in
    let begins = c.in_ok-behind_tag.ensures in
    rw c.from_residual-in_err-shown.ensures
    (no_mark c.args.tag.now c.args.count rest c.args.body.now begins c.in_err-shown.ensures)

pub returns-in_err-number_of : goal.returns-in_err-number_of
returns-in_err-number_of c =
    let rest = c.in_ok-behind_tag.field-0.now in
    let begins = c.in_ok-behind_tag.ensures in
    rw c.from_residual-in_err-number_of.ensures
    (no_digits c.args.tag.now c.args.count rest c.args.body.now c.in_ok-shown.shown.now c.in_ok-shown.digits.now begins
    c.in_ok-shown.ensures.0 c.in_ok-shown.ensures.1 c.in_err-number_of.ensures)
