use Rattle.hash_keyed.proofs.Lemmas.{◌∙◌, refl, sym, arith, eight_more}
use Rattle.hash_keyed.proofs.words.text_words.Goals as goal

pub returns-in-Some-clause-there : goal.returns-in-Some-clause-there
returns-in-Some-clause-there c =
    let cut = c.in-Some.ensures.cases in
    sym (eight_more c.args.key 1 c.first_step.result c.seven_of.result c.args.text.now c.in-Some.block.now c.split_at.result.1.now _ cut.0
    c.split_at.ensures.back (omega (arith, cut.2)) c.seven_of.ensures.value c.first_step.ensures.same refl)
    ∙ c.by_words.ensures.there
