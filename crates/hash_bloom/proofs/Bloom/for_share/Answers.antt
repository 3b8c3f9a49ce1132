use Rattle.hash_bloom.proofs.Common.{arith, common_steps, nat_tests}
use Rattle.hash_bloom.proofs.Shares.{few_pass}
use Rattle.hash_bloom.proofs.Bloom.for_share.Goals as goal

pub returns-clause-share : goal.returns-clause-share
returns-clause-share g c =
    let k = c.args.k in
    grind (arith, nat_tests, common_steps, few_pass k c.requires.some c.requires.in_the_table)
