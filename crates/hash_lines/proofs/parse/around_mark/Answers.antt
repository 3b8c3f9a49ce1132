use Rattle.hash_lines.proofs.Common.{nat_tests, common_steps}
use Rattle.hash_lines.proofs.Lemmas.{codes, sym, ◌∙◌, bytes_decides, joined_three, middle_is, told_apart, arith}
use Rattle.hash_lines.proofs.parse.around_mark.Goals as goal

pub returns-then-eq : goal.returns-then-eq
returns-then-eq c =
    let shown = c.in_ok-shown.shown.now in
    let mark = c.in_ok-shown.mark.now in
    let digits = c.in_ok-front.digits.now in
    let is = (bytes_decides mark c.as_slice.result.now).0 (sym c.if-eq.ensures) ∙ c.as_slice.ensures in
    grind (arith, nat_tests, common_steps, joined_three)

pub returns-else-eq : goal.returns-else-eq
returns-else-eq c other more count is =
    let shown = c.in_ok-shown.shown.now in
    let mark = c.in_ok-shown.mark.now in
    let digits = c.in_ok-front.digits.now in
    told_apart mark c.as_slice.result.now c.if-eq.ensures
    (middle_is shown mark digits other (codes ") = ") more c.args.rest.now
    (joined_three shown mark digits c.in_ok-front.front.now c.args.rest.now c.in_ok-shown.ensures.0 c.in_ok-front.ensures.0)
    is c.in_ok-shown.ensures.1 (c.in_ok-front.ensures.1 ∙ sym count) ∙ sym c.as_slice.ensures)
