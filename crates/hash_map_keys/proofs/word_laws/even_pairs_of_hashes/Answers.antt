use Rattle.hash_map_keys.proofs.KeyLaws.{even_pairs, exactly_even}
use Rattle.hash_map_keys.proofs.word_laws.even_pairs_of_hashes.Goals as goal

pub returns-clause-most : goal.returns-clause-most
returns-clause-most c = even_pairs

pub returns-clause-of_all : goal.returns-clause-of_all
returns-clause-of_all c = exactly_even
