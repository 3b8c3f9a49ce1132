use Rattle.hash_theorems.proofs.JenkinsCommon.{◌+◌, ◌*◌, ◌/◌, arith, DifferInOne-iff-agree}
use Rattle.hash_theorems.proofs.jenkins.two_texts.differ_in_one_stretch.Goals as goal

pub returns-in-Some : goal.returns-in-Some
returns-in-Some c =
    let from = c.in-Some.from in
    let same = DifferInOne-iff-agree (λ i. (i + 16) / 32) from ((from + 16) / 32 * 32 + 16) c.args.x.now c.args.y.now c.if-x-y.false
    c.in-Some.ensures.some (λ i reached below. omega (arith, reached, below)) (λ i beyond e. omega (arith, beyond, e)) in
    (λ yes. same.0 (c.agree_from.ensures.0 yes), λ differ. c.agree_from.ensures.1 (same.1 differ))
