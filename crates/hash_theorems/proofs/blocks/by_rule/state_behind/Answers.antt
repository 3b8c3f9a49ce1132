use Rattle.hash_theorems.proofs.BlockCommon.{found, found_alone, IsText-from_slice, common_steps, nat_tests, arith}
use Rattle.hash_theorems.proofs.blocks.by_rule.state_behind.Goals as goal

pub returns : goal.returns
returns g c =
    let left = c.args.left.now in
    let end = g.met.R.BlockUndo.facts.of_end left c.args.total (IsText-from_slice left c.type_inv.left, c.requires) in
    grind (arith, nat_tests, common_steps, found, found_alone)
