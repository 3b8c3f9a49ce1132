use Rattle.hash_ring.proofs.Lemmas.{refl, FnReturnsAt, pairs, first_to_pass, name_read, refused_all, refused_more, refused_start, round_of}
use Rattle.hash_ring.proofs.first_with_room.Goals as goal

pub loop-steps-init : goal.loop-steps-init
loop-steps-init g c =
    refused_start (round_of g.H.Piecewise.hash_of (pairs c.args.nodes.now) c.args.points.now c.requires.ring c.args.place _
    (c.first_from-first.ensures.start c.requires.ring.ordered))
    (FnReturnsAt g.F.Fn c.args.has_room)

pub loop-steps-preserved : goal.loop-steps-preserved
loop-steps-preserved g c =
    let hash = g.H.Piecewise.hash_of in
    let name = c.as_slice-name.result.now in
    refused_more (round_of hash (pairs c.args.nodes.now) c.args.points.now c.requires.ring c.args.place _ (c.first_from-first.ensures.start c.requires.ring.ordered))
    (FnReturnsAt g.F.Fn c.args.has_room) name c.loop-steps.steps c.loop-steps-test.true
    (name_read hash c.args.nodes.now c.args.points.now c.requires.ring _ c.loop-steps.steps c.index_round.result _ name
    c.index_round.ensures.in_range c.index_round.ensures.value c.as_slice-name.ensures.value)
    c.loop-steps.invariant
    (record { shown = c.as_slice-name.result; shows = refl; says = record { met = c.if-has_room.ensures } })

pub returns-then-has_room-clause-some : goal.returns-then-has_room-clause-some
returns-then-has_room-clause-some g c =
    let hash = g.H.Piecewise.hash_of in
    let name = c.as_slice-name.result.now in
    first_to_pass (round_of hash (pairs c.args.nodes.now) c.args.points.now c.requires.ring c.args.place _ (c.first_from-first.ensures.start c.requires.ring.ordered))
    (FnReturnsAt g.F.Fn c.args.has_room) name c.loop-steps.steps c.loop-steps-test.true
    (name_read hash c.args.nodes.now c.args.points.now c.requires.ring _ c.loop-steps.steps c.index_round.result _ name
    c.index_round.ensures.in_range c.index_round.ensures.value c.as_slice-name.ensures.value)
    c.loop-steps.invariant
    (record { shown = c.as_slice-name.result; shows = refl; says = record { met = c.if-has_room.ensures } })

pub returns-clause-none : goal.returns-clause-none
returns-clause-none g c =
    refused_all (round_of g.H.Piecewise.hash_of (pairs c.args.nodes.now) c.args.points.now c.requires.ring c.args.place _
    (c.first_from-first.ensures.start c.requires.ring.ordered))
    (FnReturnsAt g.F.Fn c.args.has_room)
    c.loop-steps.steps c.loop-steps.invariant c.loop-steps-test.false
