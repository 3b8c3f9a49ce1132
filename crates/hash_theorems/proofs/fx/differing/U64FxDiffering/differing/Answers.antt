use Rattle.hash_theorems.proofs.FxCommon.{arith, words32, words64-parts, le, common_steps, nat_tests}
use Rattle.hash_theorems.proofs.DifferencesLemmas.{differences-parts}
use Rattle.hash_theorems.proofs.fx.differing.U64FxDiffering.differing.Goals as goal

-- the wide words, and then the others
pub returns : goal.returns
returns c = grind (arith, nat_tests, common_steps, differences-parts, le, words32, words64-parts)
