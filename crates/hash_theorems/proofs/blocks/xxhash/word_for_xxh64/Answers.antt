use Rattle.hash_theorems.proofs.BlockCommon.{IsText-from_slice, found, found_alone, rules}
use Rattle.hash_theorems.proofs.Words64.{framed}
use Rattle.hash_theorems.proofs.blocks.xxhash.word_for_xxh64.Goals as goal

pub returns : goal.returns
returns c =
    let middle = framed c.args.seed c.args.front.now c.args.back.now (IsText-from_slice c.args.front.now c.type_inv.front)
    (IsText-from_slice c.args.back.now c.type_inv.back) c.requires in
    search (rules, found, found_alone)
