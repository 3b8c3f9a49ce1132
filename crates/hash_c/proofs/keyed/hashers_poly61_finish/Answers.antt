use Rattle.hash_c.proofs.Common.{◌∙◌, ◌∷◌, [], ap, answer_where_stands, stands_in_range, as_word, poly_end}
use Rattle.hash_c.proofs.keyed.hashers_poly61_finish.Goals as goal

pub returns-in-Some-clause-of_text : goal.returns-in-Some-clause-of_text
returns-in-Some-clause-of_text c = λ key text stands.
    c.finish.ensures.value ∙ ap (λ at. as_word (poly_end at)) c.in-Some.ensures.0 ∙ answer_where_stands _ (key ∷ []) text stands

pub returns-in-None-clause-of_text : goal.returns-in-None-clause-of_text
returns-in-None-clause-of_text c = λ key text stands. absurd (c.in-None.ensures (stands_in_range _ (key ∷ []) text stands))
