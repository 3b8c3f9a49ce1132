use Rattle.hash_theorems.proofs.BlockCommon.{arith, IsText-from_slice, found, found_alone, tail}
use Rattle.hash_theorems.proofs.Words32.{word_inside}
use Rattle.hash_theorems.proofs.blocks.xxh32.word_inside.Goals as goal

pub returns : goal.returns
unfolding tail
returns c =
    let (z, z_size, around) = c.block_around.ensures in
    let middle = word_inside c.args.seed (omega arith) c.args.front.now c.args.back.now (IsText-from_slice c.args.front.now c.type_inv.front)
    (IsText-from_slice c.args.back.now c.type_inv.back) c.requires.place c.requires.inside z z_size in
    record {
      leads = found middle c.args.hash (omega arith) c.to_le_bytes.result cc;
      alone = λ word text whole. found_alone middle c.args.hash c.to_le_bytes.result (cc) word (text, whole);
    }
