use Rattle.hash_theorems.proofs.Lookup3Blocks.{blocks-even}
use Rattle.hash_theorems.proofs.jenkins.two_texts.lookup3_is_even.Goals as goal

pub returns : goal.returns
returns c = blocks-even
