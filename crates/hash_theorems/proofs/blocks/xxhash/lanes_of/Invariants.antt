use Rattle.hash_theorems.proofs.BlockCommon.{◌≡◌, fold, take}
use Rattle.hash_blocks.specs.Xxh64.{after_block}
use Rattle.hash_theorems.proofs.blocks.xxhash.lanes_of.Given as goal

abbrev pub invariant-loop-block : goal.invariant-loop-block
invariant-loop-block l = l.lanes ≡ fold after_block l.initial.lanes (take l.block-index l.whole)
