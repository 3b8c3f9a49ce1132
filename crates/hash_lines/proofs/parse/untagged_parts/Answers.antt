use Rattle.hash_lines.proofs.Lemmas.{no_spaces, no_first_digits}
use Rattle.hash_lines.proofs.parse.untagged_parts.Goals as goal

pub returns-in_err-shown : goal.returns-in_err-shown
returns-in_err-shown c =
    rw c.from_residual-in_err-shown.ensures
    (no_spaces c.args.count c.in_ok-digits.digits.now c.in_ok-digits.rest.now c.args.body.now c.in_ok-digits.ensures.0
    c.in_ok-digits.ensures.1 c.in_err-shown.ensures)

pub returns-in_err-number_of : goal.returns-in_err-number_of
returns-in_err-number_of c =
    rw c.from_residual-in_err-number_of.ensures
    (no_first_digits c.args.count c.in_ok-digits.digits.now c.in_ok-digits.rest.now c.args.body.now c.in_ok-digits.ensures.0
    c.in_ok-digits.ensures.1 c.in_err-number_of.ensures)
