use Rattle.hash_theorems.proofs.JenkinsCommon.{OnTrue_from, IsText-from_slice}
use Rattle.hash_theorems.specs.Mixing.{HaveOtherThree}
use Rattle.hash_theorems.proofs.Lookup3Blocks.{lookup3_words-differ}
use Rattle.hash_theorems.proofs.jenkins.two_texts.apart_by_block.Goals as goal

pub returns-clause-differ : goal.returns-clause-differ
returns-clause-differ c = OnTrue_from c.differ_in_one_block.result (HaveOtherThree c.args.x.now c.args.y.now)
    (λ yes pc pb. lookup3_words-differ pc pb c.args.x.now c.args.y.now
    (IsText-from_slice c.args.x.now c.type_inv.x) (IsText-from_slice c.args.y.now c.type_inv.y) (c.differ_in_one_block.ensures.0 yes))
