use Rattle.hash_c.proofs.Common.{◌∷◌, [], ◌∙◌, ap, unwrap_or}
use Rattle.hash_c.proofs.block.hashers_siphash24_finish.Goals as goal

pub returns-clause-of_text : goal.returns-clause-of_text
returns-clause-of_text c = λ k0 k1 text stands.
    c.unwrap_or.ensures ∙ ap (λ o. unwrap_or o 0) (c.hash_so_far.ensures.of_text (k0 ∷ k1 ∷ []) text stands)
