use Rattle.hash_map_keys.proofs.TwoKeys.{few_same, short_apart}
use Rattle.hash_map_keys.proofs.laws.words_tell_keys_apart.Goals as goal

pub returns-clause-short : goal.returns-clause-short
returns-clause-short c = short_apart

pub returns-clause-long : goal.returns-clause-long
returns-clause-long c = few_same
