use Rattle.hash_theorems.proofs.JenkinsCommon.{rest_more, lookup3_from, lookup3_alike, common_steps, nat_tests, arith}
use Rattle.hash_theorems.proofs.jenkins.two_texts.same_answers_later.Goals as goal

-- a piece fed to both keeps their answers alike
pub loop-piece-preserved : goal.loop-piece-preserved
loop-piece-preserved c = grind (arith, nat_tests, common_steps, rest_more, lookup3_from, lookup3_alike)
