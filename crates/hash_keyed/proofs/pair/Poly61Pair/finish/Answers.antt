use Rattle.std.proofs.lemmas.Bool.Decides.{nat_tests}
use Rattle.hash_keyed.proofs.Common.{arith, common_steps}
use Rattle.hash_keyed.proofs.pair.Poly61Pair.finish.Goals as goal

pub returns : goal.returns
returns c = grind (arith, nat_tests, common_steps)
