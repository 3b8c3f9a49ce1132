use Rattle.hash_bytes.proofs.Joined.{sdbm_joined}
use Rattle.hash_bytes.proofs.oz.sdbm_of_joined_texts.Goals as goal

pub returns : goal.returns
returns c = sdbm_joined
