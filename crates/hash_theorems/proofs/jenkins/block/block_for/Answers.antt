use Rattle.hash_theorems.proofs.JenkinsCommon.{◌≡◌, arith, common_steps, nat_tests}
use Rattle.hash_theorems.proofs.Lookup3Blocks.{block_to, wanted, block-leads, block-third, block-alone}
use Rattle.hash_theorems.proofs.jenkins.block.block_for.Goals as goal

pub returns : goal.returns
returns c =
    let pc = c.args.hasher.now.0 in
    let pb = c.args.hasher.now.1 in
    let is : c.put_array-3.new.buffer ≡ block_to pc pb (wanted pc pb c.args.answer c.args.third) =
    grind (arith, nat_tests, common_steps) in
    rw (is) (record {
      leads = block-leads pc pb c.args.answer c.args.third (omega arith) (omega arith);
      third_word = block-third pc pb c.args.answer c.args.third (omega arith) (omega arith);
      alone = block-alone pc pb c.args.answer c.args.third (omega arith) (omega arith);
    })
