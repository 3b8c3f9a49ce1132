use Rattle.hash_map_keys.proofs.KeyLaws.{few_meetings}
use Rattle.hash_map_keys.proofs.word_laws.few_meetings.Goals as goal

pub returns : goal.returns
returns c = few_meetings
