use Rattle.spread_core.proofs.Common.{ℕ, ◌≡◌, ◌+◌, ◌-◌, ◌≤◌, eqb, get_or, length, take, ap, ◌∙◌, arith, refl, take_more, count_by-le-length, collisions, meetings, times}
use Rattle.std.proofs.lemmas.List.{length-take}
use Rattle.spread_core.proofs.CollisionLemmas.{collisions_push}
use Rattle.spread_core.proofs.counts.collisions_in_order.Goals as goal

pub loop-i-init : goal.loop-i-init
unfolding meetings
loop-i-init c = record { counted = refl; last = λ some. absurd (omega arith); small = omega arith }

pub loop-i-preserved : goal.loop-i-preserved
loop-i-preserved c =
    let i = c.loop-i.i in
    let hashes = c.args.hashes.now in
    let hash : ℕ = get_or hashes i 0 in
    let back : i ≡ i + 1 - 1 = omega arith in
    let more : collisions (take (i + 1) hashes) ≡ collisions (take i hashes) + times hash (take i hashes) =
    ap collisions (take_more hashes i 0 c.loop-i-test.true) ∙ collisions_push (take i hashes) hash in
    let few : times hash (take i hashes) ≤ length (take i hashes) = count_by-le-length (λ other. eqb other hash) (take i hashes) in
    record {
      counted = omega (arith, more, c.equal_before-equal.ensures, c.from-total.ensures, c.loop-i.invariant.counted);
      last = λ some. c.equal_before-equal.ensures ∙ ap (λ k. times (get_or hashes k 0) (take k hashes)) back;
      small = omega (arith, few, length-take i hashes, c.equal_before-equal.ensures, c.from-total.ensures, c.loop-i.invariant.small);
    }
