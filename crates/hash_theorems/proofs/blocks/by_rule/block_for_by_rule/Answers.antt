use Rattle.hash_theorems.proofs.BlockCommon.{found, found_alone, IsText-from_slice, common_steps, nat_tests, arith}
use Rattle.hash_theorems.proofs.BlockLemmas.{framed}
use Rattle.hash_theorems.proofs.blocks.by_rule.block_for_by_rule.Goals as goal

pub returns : goal.returns
returns g c =
    let middle = framed g.met.R.BlockRule.some g.met.R.BlockUndo.facts g.R.BlockRule.hash g.met.R.BlockRule.is_hash
    (g.R.BlockRule.numbers c.args.seed) c.args.front.now c.args.back.now c.seed_in_range.ensures
    (IsText-from_slice c.args.front.now c.type_inv.front) (IsText-from_slice c.args.back.now c.type_inv.back) c.requires.place in
    grind (arith, nat_tests, common_steps, found, found_alone)
