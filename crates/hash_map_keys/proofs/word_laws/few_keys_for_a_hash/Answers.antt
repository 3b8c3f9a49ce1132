use Rattle.hash_map_keys.proofs.KeyLaws.{few_have}
use Rattle.hash_map_keys.proofs.word_laws.few_keys_for_a_hash.Goals as goal

pub returns : goal.returns
returns c = few_have
