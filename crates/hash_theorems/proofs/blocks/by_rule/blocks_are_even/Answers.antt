use Rattle.hash_theorems.proofs.BackLemmas.{one_block}
use Rattle.hash_theorems.proofs.BlockLemmas.{framed}
use Rattle.hash_theorems.proofs.blocks.by_rule.blocks_are_even.Goals as goal

pub returns : goal.returns
returns g c = λ from front back hash seed front_is back_is place.
    one_block g.row.N g.met.R.BlockRule.some (framed g.met.R.BlockRule.some g.met.R.BlockUndo.facts g.R.BlockRule.hash g.met.R.BlockRule.is_hash
    from front back seed front_is back_is place) hash
