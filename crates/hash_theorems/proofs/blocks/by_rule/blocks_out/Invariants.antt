use Rattle.hash_theorems.proofs.BlockCommon.{◌≡◌, fold, reverse, rev_source, iter_rest, blocks_before}
use Rattle.hash_theorems.proofs.blocks.by_rule.blocks_out.Given as goal

-- what is left leads where all leads
abbrev pub invariant-loop-block : goal.invariant-loop-block
invariant-loop-block g l =
    fold g.R.BlockUndo.unblock l.state (reverse (iter_rest (rev_source l.block-iterator)))
    ≡ blocks_before g.row.N g.R.BlockUndo.unblock l.initial.state l.bytes
