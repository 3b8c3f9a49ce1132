use Rattle.hash_theorems.proofs.BlockCommon.{ℕ, List, ◌≢◌, OnTrue_from, IsText-from_slice}
use Rattle.hash_theorems.proofs.BlockLemmas.{differ-shows}
use Rattle.hash_theorems.proofs.blocks.by_rule.apart_by_rule.Goals as goal

pub differ_in_one_block-requires : goal.differ_in_one_block-requires
differ_in_one_block-requires g c = g.met.R.BlockRule.some

pub returns-clause-differ : goal.returns-clause-differ
returns-clause-differ g c = OnTrue_from c.differ_in_one_block.result ((from : List ℕ) → g.R.BlockUndo.is_seed from
    → g.R.BlockRule.hash from c.args.x.now ≢ g.R.BlockRule.hash from c.args.y.now) (λ yes from seed.
    differ-shows g.met.R.BlockRule.some g.met.R.BlockUndo.facts g.R.BlockRule.hash g.met.R.BlockRule.is_hash
    from c.args.x.now c.args.y.now seed (IsText-from_slice c.args.x.now c.type_inv.x) (IsText-from_slice c.args.y.now c.type_inv.y)
    (c.differ_in_one_block.ensures.0 yes))
