use Rattle.hash_words.proofs.Common.{◌∙◌, sym}
use Rattle.hash_words.proofs.WordLemmas.{swap_halves-is}
use Rattle.hash_words.proofs.words.swap_halves.Goals as goal

pub returns-clause-value : goal.returns-clause-value
returns-clause-value c = c.rotl64.ensures.value ∙ swap_halves-is c.args.x

pub returns-clause-undone : goal.returns-clause-undone
returns-clause-undone c = sym (swap_halves-is c.rotl64.result) ∙ c.rotl64.ensures.undone
