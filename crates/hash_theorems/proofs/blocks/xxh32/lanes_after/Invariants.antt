use Rattle.hash_theorems.proofs.BlockCommon.{◌≡◌, fold, take, after_block}
use Rattle.hash_theorems.proofs.blocks.xxh32.lanes_after.Given as goal

abbrev pub invariant-loop-block : goal.invariant-loop-block
invariant-loop-block l = l.after ≡ fold after_block l.initial.after (take l.block-index l.whole)
