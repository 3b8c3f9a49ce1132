use Rattle.hash_theorems.proofs.Lookup3Blocks.{lookup3_words-differ}
use Rattle.hash_theorems.proofs.jenkins.two_texts.one_changed_block_shows.Goals as goal

pub returns : goal.returns
returns c = λ x y xs ys differ pc pb. lookup3_words-differ pc pb x y xs ys differ
