use Rattle.hash_lines.proofs.Lemmas.{ap, sym, ◌∙◌, is_sum, word_one}
use Rattle.hash_lines.proofs.forms.begins_with_sum.Goals as goal

pub returns-in-Some-clause-none : goal.returns-in-Some-clause-none
returns-in-Some-clause-none c is word behind has =
    let line = c.args.line.now in
    let (same, rest) = word_one line word behind c.in-Some.word.now c.in-Some.field-0-1.now has c.in-Some.ensures in
    ap is_sum same ∙ sym c.is_sum.ensures ∙ is

pub returns-in-None-clause-none : goal.returns-in-None-clause-none
returns-in-None-clause-none c is word behind has = absurd (c.in-None.ensures word behind has)
