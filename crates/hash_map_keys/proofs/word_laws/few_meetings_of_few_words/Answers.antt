use Rattle.hash_map_keys.proofs.KeyLaws.{mean_meetings, half_of_the_keys}
use Rattle.hash_map_keys.proofs.word_laws.few_meetings_of_few_words.Goals as goal

pub returns-clause-mean : goal.returns-clause-mean
returns-clause-mean c = mean_meetings

pub returns-clause-half : goal.returns-clause-half
returns-clause-half c = half_of_the_keys
