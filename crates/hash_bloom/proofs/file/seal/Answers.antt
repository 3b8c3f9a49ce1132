use Rattle.hash_bloom.proofs.Common.{common_steps, nat_tests}
use Rattle.hash_bloom.proofs.Lemmas.{hash_more, arith}
use Rattle.hash_bloom.proofs.file.seal.Goals as goal

pub loop-word-preserved : goal.loop-word-preserved
loop-word-preserved c = grind (arith, nat_tests, common_steps, hash_more)
