use Rattle.hash_theorems.proofs.Words32.{word-differs}
use Rattle.hash_theorems.proofs.blocks.xxhash.one_changed_word_shows_in_xxh32.Goals as goal

pub returns : goal.returns
returns c = word-differs
