use Rattle.hash_theorems.proofs.BlockCommon.{IsText-from_slice, found, found_alone, tail, rules}
use Rattle.hash_theorems.proofs.Words32.{word_behind}
use Rattle.hash_theorems.proofs.blocks.xxh32.word_behind.Goals as goal

pub returns : goal.returns
unfolding tail
returns c =
    let middle = word_behind c.args.seed c.args.front.now c.args.back.now (IsText-from_slice c.args.front.now c.type_inv.front)
    (IsText-from_slice c.args.back.now c.type_inv.back) c.requires.place c.requires.behind in
    search (rules, found, found_alone)
