use Rattle.hash_bloom.proofs.Common.{common_steps, nat_tests}
use Rattle.hash_bloom.proofs.Lemmas.{next_hash, next_step, all_more, arith}
use Rattle.hash_bloom.proofs.bits.has_all.Goals as goal

pub loop-i-preserved : goal.loop-i-preserved
loop-i-preserved c = grind (arith, nat_tests, common_steps, next_hash, next_step, all_more)
