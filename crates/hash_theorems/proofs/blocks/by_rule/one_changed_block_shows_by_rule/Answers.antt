use Rattle.hash_theorems.proofs.BlockLemmas.{differ-shows}
use Rattle.hash_theorems.proofs.blocks.by_rule.one_changed_block_shows_by_rule.Goals as goal

pub returns : goal.returns
returns g c = differ-shows g.met.R.BlockRule.some g.met.R.BlockUndo.facts g.R.BlockRule.hash g.met.R.BlockRule.is_hash
