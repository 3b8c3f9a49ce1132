use Rattle.hash_bloom.proofs.Common.{common_steps, nat_tests}
use Rattle.hash_bloom.proofs.Lemmas.{arith, count_set-le}
use Rattle.hash_bloom.proofs.Bloom.estimate.Goals as goal

pub overflow_sub-zeros : goal.overflow_sub-zeros
overflow_sub-zeros g c = grind (arith, nat_tests, common_steps, count_set-le)

pub returns-then-zeros-eq0-clause-none : goal.returns-then-zeros-eq0-clause-none
returns-then-zeros-eq0-clause-none g c = grind (arith, nat_tests, common_steps, count_set-le)
