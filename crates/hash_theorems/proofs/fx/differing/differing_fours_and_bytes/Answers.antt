use Rattle.hash_theorems.proofs.FxCommon.{arith, map-id, words32-parts, le, common_steps, nat_tests}
use Rattle.hash_theorems.proofs.DifferencesLemmas.{differences-parts}
use Rattle.hash_theorems.proofs.fx.differing.differing_fours_and_bytes.Goals as goal

-- the wide words, and then the others
pub returns-clause-value : goal.returns-clause-value
returns-clause-value c = grind (arith, nat_tests, common_steps, map-id, differences-parts, le, words32-parts)
