use Rattle.hash_bloom.proofs.Common.{◌⊎◌, ◌≡◌, ◌+◌, ◌^◌, ◌<◌, arith, subst, IsWithin, common_steps, nat_tests}
use Rattle.hash_bloom.proofs.estimate.+last_above.Goals as goal

pub returns-then-two-gt-MANY-clause-last : goal.returns-then-two-gt-MANY-clause-last
returns-then-two-gt-MANY-clause-last t c = grind (arith, nat_tests, common_steps)

pub returns-then-odd-limit-clause-last : goal.returns-then-odd-limit-clause-last
returns-then-odd-limit-clause-last t c = λ bits one.
    let even = c.last_above-even.ensures.last bits (c.after_both-two.ensures.expected bits one one) in
    let same : c.last_above-even.result.probes + c.after_both-two.result.probes ≡ c.after_both-odd.result.probes + c.args.one.probes =
    omega arith in
    record {
      expected = c.after_both-odd.ensures.expected bits even.expected one;
      next = subst (λ m. (2 ^ 70 < m) ⊎ IsWithin bits c.args.limit m) same even.next;
    }

pub returns-else-odd-limit-clause-last : goal.returns-else-odd-limit-clause-last
returns-else-odd-limit-clause-last t c = λ bits one.
    let even = c.last_above-even.ensures.last bits (c.after_both-two.ensures.expected bits one one) in
    grind (arith, nat_tests, common_steps)
