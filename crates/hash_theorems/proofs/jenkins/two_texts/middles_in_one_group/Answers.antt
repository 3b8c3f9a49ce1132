use Rattle.hash_laws.proofs.OneBlock.{middles-DifferInOneBlock}
use Rattle.hash_theorems.proofs.JenkinsCommon.{◌+◌, ◌/◌, arith, middles-DifferInOne}
use Rattle.hash_theorems.proofs.jenkins.two_texts.middles_in_one_group.Goals as goal

pub returns-clause-block : goal.returns-clause-block
returns-clause-block c = middles-DifferInOneBlock 12

pub returns-clause-stretch : goal.returns-clause-stretch
returns-clause-stretch c = λ front x y back len different room. middles-DifferInOne (λ i. (i + 16) / 32) front x y back len different
    (λ i from below. omega (arith, from, below, room))
