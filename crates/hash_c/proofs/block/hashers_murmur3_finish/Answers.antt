use Rattle.hash_c.proofs.Common.{◌∷◌, [], ◌∙◌, ap, unwrap_or}
use Rattle.hash_c.proofs.block.hashers_murmur3_finish.Goals as goal

pub returns-clause-of_text : goal.returns-clause-of_text
returns-clause-of_text c = λ seed text stands.
    let both = c.unwrap_or.ensures ∙ ap (λ o. unwrap_or o (0, 0)) (c.hash_so_far.ensures.of_text (seed ∷ []) text stands) in
    rw (c.two_words.ensures.first, c.two_words.ensures.second) both
