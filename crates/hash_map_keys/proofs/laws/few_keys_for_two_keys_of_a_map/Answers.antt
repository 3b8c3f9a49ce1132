use Rattle.hash_map_keys.proofs.TwoKeys.{few_for_two}
use Rattle.hash_map_keys.proofs.laws.few_keys_for_two_keys_of_a_map.Goals as goal

pub returns : goal.returns
returns c = few_for_two
