use Rattle.hash_cuts.proofs.Common.{arith, nat_tests, common_steps}
use Rattle.hash_cuts.proofs.GearLemmas.{gear-digits, gear-last}
use Rattle.hash_cuts.proofs.laws.gear_is_a_sum.Goals as goal

pub returns : goal.returns
returns c = grind (arith, nat_tests, common_steps, gear-digits, gear-last)
