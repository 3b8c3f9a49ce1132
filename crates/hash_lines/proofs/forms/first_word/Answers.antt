use Rattle.hash_lines.proofs.Lemmas.{◌≡◌, ◌≤◌, false, All, length, arith, sym, ◌∙◌, subst, take_all, is_ascii_whitespace, All-more, no_word}
use Rattle.hash_lines.proofs.forms.first_word.Goals as goal

pub loop-at-preserved : goal.loop-at-preserved
loop-at-preserved c =
    All-more (λ byte. is_ascii_whitespace byte ≡ false) c.args.line.now c.loop-at.at 0 (omega arith) c.loop-at.invariant
    (sym c.is_ascii_whitespace.ensures.value ∙ c.if-is_ascii_whitespace.false)

pub returns : goal.returns
returns c =
    let whole : length c.args.line.now ≤ c.loop-at.at = omega arith in
    no_word c.args.line.now (subst (λ t. All (λ byte. is_ascii_whitespace byte ≡ false) t) (take_all c.loop-at.at c.args.line.now whole)
    c.loop-at.invariant)
