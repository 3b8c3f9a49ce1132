use Rattle.hash_theorems.proofs.JenkinsCommon.{short_end, common_steps, nat_tests, arith}
use Rattle.hash_theorems.proofs.ShortStretches.{length-back}
use Rattle.hash_theorems.proofs.jenkins.stretch.un_end.Goals as goal

pub returns : goal.returns
returns c = grind (arith, nat_tests, common_steps, short_end, length-back)
