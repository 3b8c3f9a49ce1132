use Rattle.hash_theorems.proofs.Words64.{last_word-differs}
use Rattle.hash_theorems.proofs.blocks.xxhash.one_changed_word_shows_in_xxh64.Goals as goal

pub returns : goal.returns
returns c = last_word-differs
