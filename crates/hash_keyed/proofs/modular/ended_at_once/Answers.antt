use Rattle.hash_keyed.proofs.Lemmas.{◌∙◌, arith, refl, places, ended_is}
use Rattle.hash_keyed.proofs.modular.ended_at_once.Goals as goal

pub first_step-requires-clause-word_in : goal.first_step-requires-clause-word_in
first_step-requires-clause-word_in c = omega (arith, places c.args.count c.requires.count_in, c.placed.ensures, c.requires.word_in)

pub returns : goal.returns
returns c =
    c.finished.ensures
    ∙ ended_is c.args.key 1 c.args.word c.args.count _ c.first_step.result _ _ _ c.placed.ensures c.first_step.ensures.same refl refl refl
