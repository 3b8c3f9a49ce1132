use Rattle.hash_c.proofs.Common.{ap, ◌∙◌, unwrap_or}
use Rattle.hash_c.proofs.xxh3.hashers_xxh3_finish.Goals as goal

pub returns-clause-of_text : goal.returns-clause-of_text
returns-clause-of_text c = λ seed text stood. c.unwrap_or.ensures ∙ ap (λ o. unwrap_or o 0) (c.hash.ensures.of_text seed text stood)
