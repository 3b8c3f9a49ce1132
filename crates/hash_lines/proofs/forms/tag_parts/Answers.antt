use Rattle.hash_lines.proofs.Lemmas.{no_close, no_equals, no_open}
use Rattle.hash_lines.proofs.forms.tag_parts.Goals as goal

pub returns-in_err-front : goal.returns-in_err-front
returns-in_err-front c = rw c.from_residual.ensures (no_open c.args.line.now c.in_err-front.ensures)

pub returns-in_err-shown : goal.returns-in_err-shown
returns-in_err-shown c =
    rw c.from_residual-in_err-shown.ensures
    (no_close c.args.line.now c.in_ok-front.front.now c.in_ok-front.later.now c.in_ok-front.ensures.0 c.in_ok-front.ensures.1
    c.in_err-shown.ensures)

pub returns-in_err-value : goal.returns-in_err-value
returns-in_err-value c =
    rw c.from_residual-in_err-value.ensures
    (no_equals c.args.line.now c.in_ok-front.front.now c.in_ok-front.later.now c.in_ok-shown.shown.now c.in_ok-shown.back.now
    c.trim_ascii_start.result.now c.in_ok-front.ensures.0 c.in_ok-front.ensures.1 c.in_ok-shown.ensures.0 c.in_ok-shown.ensures.1
    c.trim_ascii_start.ensures.value c.in_err-value.ensures)
