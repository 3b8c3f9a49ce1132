use Rattle.cli.proofs.Common.{◌≡◌, List, ℕ, None, Err, true, ap, subst, sym, ◌∙◌, all_ascii_digits, parse_digits, number_of}
use Rattle.cli.proofs.NumberLemmas.{digits_are_text, no_number, own}
use Rattle.cli.proofs.numbers.number_of.Goals as goal

pub returns-in-Err-parse : goal.returns-in-Err-parse
returns-in-Err-parse c =
    let text = c.in-Ok.text.now in
    let same = c.in-Ok.ensures.cases.0 in
    let all : all_ascii_digits text ≡ true = ap all_ascii_digits same ∙ sym c.are_digits.ensures ∙ c.if-not-are_digits.false in
    let neither = parse_digits own 64 text (Err c.in-Err-parse.field-0) c.in-Err-parse.ensures.value.0 all in
    subst (λ (t : List ℕ). None ≡ number_of t) same (no_number text all neither)

pub returns-in-Err : goal.returns-in-Err
returns-in-Err c =
    absurd (c.in-Err.ensures.cases.0 (digits_are_text c.args.digits.now (sym c.are_digits.ensures ∙ c.if-not-are_digits.false)))
