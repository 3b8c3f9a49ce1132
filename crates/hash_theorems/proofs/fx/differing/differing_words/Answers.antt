use Rattle.hash_theorems.proofs.FxCommon.{arith, both_ways, common_steps, nat_tests}
use Rattle.hash_theorems.proofs.DifferencesLemmas.{more-same, more-differ}
use Rattle.hash_theorems.proofs.fx.differing.differing_words.Goals as goal
use Rattle.hash_theorems.proofs.fx.differing.differing_words.Goals.{then-not-same, else-not-same}

-- one place more
pub loop-i-preserved : goal.loop-i-preserved
loop-i-preserved g c = grind (arith, nat_tests, common_steps, more-differ, both_ways, more-same)
