use Rattle.hash_ring.proofs.Lemmas.{refl, arith, length-map, common_steps, pairs, none, none_yet, first_read, last_places, next_point, rules, nat_tests}
use Rattle.hash_ring.proofs.shares_of.Goals as goal

pub loop-point-init : goal.loop-point-init
loop-point-init g c = search (rules, none_yet, length-map)

pub overflow_sub-to : goal.overflow_sub-to
overflow_sub-to g c = search (rules, none)

pub loop-point-preserved : goal.loop-point-preserved
loop-point-preserved g c = grind (arith, nat_tests, common_steps, next_point, none)

pub returns : goal.returns
returns g c =
    let points = c.args.points.now in
    let first = first_read points c.in-Some.first.now c.in-Some.ensures.value in
    let last = last_places g.H.Piecewise.hash_of (pairs c.args.nodes.now) points c.requires c.loop-point.point-index
    c.loop-point.shares.items _ c.loop-point.from c.index_mut-2.result.now c.loop-point.invariant.so_far c.in-Some.first.now
    c.loop-point-test.false first.0 first.1 c.loop-point.invariant.small c.index_mut-2.ensures.value refl in
    grind (arith, nat_tests, common_steps)
