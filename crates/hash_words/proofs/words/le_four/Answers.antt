use Rattle.hash_words.proofs.Common.{◌∙◌}
use Rattle.hash_words.proofs.WordLemmas.{from_le_bytes-4}
use Rattle.hash_words.proofs.words.le_four.Goals as goal

pub returns : goal.returns
returns c = c.from_le_bytes.ensures ∙ from_le_bytes-4 c.args.bytes.now c.told-bytes
