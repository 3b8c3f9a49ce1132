use Rattle.hash_bloom.proofs.Common.{arith, common_steps, nat_tests}
use Rattle.hash_bloom.proofs.Bloom.contains_pieces.Goals as goal

pub returns : goal.returns
returns g c = grind (arith, nat_tests, common_steps)
