use Rattle.hash_c.proofs.Common.{ℕ, ap, ◌∙◌, ap₂, unwrap_or}
use Rattle.hash_c.proofs.xxh3.hashers_xxh128_finish.Goals as goal

pub returns-clause-of_text : goal.returns-clause-of_text
returns-clause-of_text c = λ seed text stood.
    ap₂ (λ (a b : ℕ). (a, b)) c.two_words.ensures.first c.two_words.ensures.second
    ∙ c.unwrap_or.ensures ∙ ap (λ o. unwrap_or o (0, 0)) (c.hash128.ensures.of_text seed text stood)
