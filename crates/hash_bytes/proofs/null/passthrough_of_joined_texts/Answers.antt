use Rattle.hash_bytes.proofs.Joined.{passthrough_joined}
use Rattle.hash_bytes.proofs.null.passthrough_of_joined_texts.Goals as goal

pub returns : goal.returns
returns c = passthrough_joined
