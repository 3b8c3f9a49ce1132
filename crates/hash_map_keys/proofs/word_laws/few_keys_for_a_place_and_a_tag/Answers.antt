use Rattle.hash_map_keys.proofs.KeyLaws.{few_share}
use Rattle.hash_map_keys.proofs.word_laws.few_keys_for_a_place_and_a_tag.Goals as goal

pub returns : goal.returns
returns c = few_share
