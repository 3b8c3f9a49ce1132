use Rattle.hash_bloom.proofs.Common.{common_steps, nat_tests}
use Rattle.hash_bloom.proofs.Lemmas.{arith, subst, mul-le-mul_right, pow-le-pow_left, IsNearest, nearest}
use Rattle.hash_bloom.proofs.estimate.nearest_keys.Goals as goal

pub returns-then-zeros-bits : goal.returns-then-zeros-bits
returns-then-zeros-bits c = grind (arith, nat_tests, common_steps, mul-le-mul_right, pow-le-pow_left)

pub returns : goal.returns
returns c =
    let fewest = c.fewest_probes-fewest in
    subst (λ probes. IsNearest c.args.bits probes c.args.zeros c.min.result) c.from-probes.ensures
    (nearest c.args.bits c.from-probes.result c.args.zeros fewest.result c.min.result (omega arith)
    fewest.ensures.some (omega arith) fewest.ensures.more fewest.ensures.at_most)
