use Rattle.dedup_core.proofs.Common.{nat_tests}
use Rattle.dedup_core.proofs.Lemmas.{◌<◌, true, false, length, sym, ◌∙◌, arith, rules, part_at_start, part_within, so_far_more, so_far_start, common_steps}
use Rattle.std.proofs.Math.Bool.{and-false, and-true}
use Rattle.dedup_core.proofs.run.take_inputs.Goals as goal
use Rattle.dedup_core.proofs.run.take_inputs.Goals.{in-Done, in-Failed}

pub returns-in_err-flush-clause-ended : goal.returns-in_err-flush-clause-ended
returns-in_err-flush-clause-ended g c = grind (arith, nat_tests, common_steps, part_at_start)

pub loop-place-init : goal.loop-place-init
loop-place-init g c =
    (so_far_start _ _ _ c.requires.begun c.requires.nothing c.flush.ensures.kept, c.new-unread.ensures, c.in_ok-flush.ensures.flushed)

pub returns-in_err-take_input-clause-ended : goal.returns-in_err-take_input-clause-ended
returns-in_err-take_input-clause-ended g c =
    let (so_far, unread, flushed) = c.loop-place.invariant in
    let below : c.loop-place.place < length c.args.inputs.now = omega (arith, c.loop-place-test.true) in
    let below' : c.loop-place.place < length c.loop-place.inputs = omega (arith, below, c.loop-place.auto.inputs) in
    let part = part_within so_far c.index-inputs-place.result below below' c.in_err-take_input.ensures.broke in
    search rules

pub loop-place-preserved : goal.loop-place-preserved
loop-place-preserved g c =
    let (so_far, unread, flushed) = c.loop-place.invariant in
    let below : c.loop-place.place < length c.args.inputs.now = omega (arith, c.loop-place-test.true) in
    let below' : c.loop-place.place < length c.loop-place.inputs = omega (arith, below, c.loop-place.auto.inputs) in
    elim c.match-branch-3.branch [
      | in-Done w ↦ (let (more, reads, leads) = rw w.in-Done.is at c.in_ok-take_input.ensures.left in (
        so_far_more so_far c.index-inputs-place.result below below' c.take_input.new.r true _ more
            (and-true c.loop-place.whole ∙ sym w.whole-is) reads leads,
        c.in_ok-take_input.ensures.unread,
        c.in_ok-take_input.ensures.flushed,
      ))
      | in-Failed w ↦ (let (more, reads, leads) = rw w.in-Failed.is at c.in_ok-take_input.ensures.left in (
        so_far_more so_far c.index-inputs-place.result below below' c.take_input.new.r false _ more
            (and-false c.loop-place.whole ∙ sym w.whole-is) reads leads,
        c.in_ok-take_input.ensures.unread,
        c.in_ok-take_input.ensures.flushed,
      ))
    ]
