use Rattle.hash_theorems.proofs.JenkinsCommon.{sym}
use Rattle.hash_jenkins.specs.SpookyLaws.{after-position}
use Rattle.hash_theorems.proofs.jenkins.two_texts.position_of_joined_texts.Goals as goal

pub returns : goal.returns
returns c = λ seed1 seed2 text more. sym (after-position seed1 seed2 text more)
