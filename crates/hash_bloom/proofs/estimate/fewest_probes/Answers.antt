use Rattle.hash_bloom.proofs.Lemmas.{⊎_elim, ◌+◌, ◌-◌, ◌*◌, ◌/◌, ◌^◌, ◌<◌, ◌≤◌, arith, refl, subst, IsWithin, LeavesAtMost, LeavesMore, expected_first, few, leaves_at_most, leaves_more, more_before}
use Rattle.hash_bloom.proofs.estimate.fewest_probes.Goals as goal

pub returns-then-one-limit-clause-at_most : goal.returns-then-one-limit-clause-at_most
returns-then-one-limit-clause-at_most c = λ small.
    let b = c.from.result in
    let bit = (2 ^ 128 - 1) / b + 1 in
    let cube : b ^ 3 ≤ 2 ^ 120 * c.from-2.result = rw (c.from.ensures, c.from-2.ensures) small in
    let first = expected_first b bit (omega arith) refl in
    let at_most = leaves_at_most b bit (omega arith) refl c.from-2.result 1 (2 ^ 128 - 1 - bit + 1) first
    c.if-one-limit.true (omega arith) cube (omega arith) in
    subst (λ n. LeavesAtMost n c.args.zeros 2) c.from.ensures (subst (λ n. LeavesAtMost b n 2) c.from-2.ensures at_most)

pub returns-clause-more : goal.returns-clause-more
returns-clause-more c =
    let b = c.from.result in
    let bit = (2 ^ 128 - 1) / b + 1 in
    let last = c.last_above.result in
    let is_last = c.last_above.ensures.last b (expected_first b bit (omega arith) refl) in
    let more = leaves_more b bit (omega arith) refl c.from-2.result last.probes last.zeros is_last.expected c.last_above.ensures.above in
    more_before c.args.bits c.args.zeros (last.probes + 1 - 1) last.probes (omega arith)
    (subst (λ n. LeavesMore n c.args.zeros last.probes) c.from.ensures (subst (λ n. LeavesMore b n last.probes) c.from-2.ensures more))

pub returns-clause-at_most : goal.returns-clause-at_most
returns-clause-at_most c = λ small.
    let b = c.from.result in
    let bit = (2 ^ 128 - 1) / b + 1 in
    let last = c.last_above.result in
    let is_last = c.last_above.ensures.last b (expected_first b bit (omega arith) refl) in
    let more = leaves_more b bit (omega arith) refl c.from-2.result last.probes last.zeros is_last.expected c.last_above.ensures.above in
    let soon : last.probes < 64 * b = few b c.from-2.result (omega arith) (omega arith) (omega arith) last.probes more in
    let cube : b ^ 3 ≤ 2 ^ 120 * c.from-2.result = rw (c.from.ensures, c.from-2.ensures) small in
    ⊎_elim
    (λ (many : 2 ^ 70 < last.probes + 1). absurd (omega (arith, many, soon)))
    (λ (next : IsWithin b (c.from-2.result * bit) (last.probes + 1)).
    let at_most = leaves_at_most b bit (omega arith) refl c.from-2.result (last.probes + 1) next.0 next.1 next.2 (omega arith) cube
    (omega (arith, soon)) in
    subst (λ n. LeavesAtMost n c.args.zeros (last.probes + 1 + 1)) c.from.ensures
    (subst (λ n. LeavesAtMost b n (last.probes + 1 + 1)) c.from-2.ensures at_most))
    is_last.next
