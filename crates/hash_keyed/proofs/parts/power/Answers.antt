use Rattle.std.proofs.lemmas.Bool.Decides.{nat_tests}
use Rattle.hash_keyed.proofs.Lemmas.{arith, power_odd, power_even, common_steps}
use Rattle.hash_keyed.proofs.parts.power.Goals.{then-left-eq1, else-left-eq1}
use Rattle.hash_keyed.proofs.parts.power.Goals as goal

pub loop-left-preserved : goal.loop-left-preserved
loop-left-preserved c = grind (arith, nat_tests, common_steps, power_odd, power_even)
