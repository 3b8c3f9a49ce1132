use Rattle.hash_bytes.proofs.Joined.{loselose_joined}
use Rattle.hash_bytes.proofs.oz.loselose_of_joined_texts.Goals as goal

pub returns : goal.returns
returns c = loselose_joined
