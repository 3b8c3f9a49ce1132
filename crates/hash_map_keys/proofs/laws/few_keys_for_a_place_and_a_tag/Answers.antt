use Rattle.hash_map_keys.proofs.TwoKeys.{few_meet}
use Rattle.hash_map_keys.proofs.laws.few_keys_for_a_place_and_a_tag.Goals as goal

pub returns : goal.returns
returns c = few_meet
