use Rattle.hash_map_keys.proofs.KeyLaws.{number_words, pair_words}
use Rattle.hash_map_keys.proofs.word_laws.numbers_are_words.Goals as goal

pub returns-clause-number : goal.returns-clause-number
returns-clause-number c = number_words

pub returns-clause-pair : goal.returns-clause-pair
returns-clause-pair c = pair_words
