use Rattle.hash_cuts.proofs.Common.{◌-◌, length, drop, refl, ap, ◌∙◌, arith, first_cut, length-drop, take_all, nat_tests, common_steps}
use Rattle.hash_cuts.proofs.EndLemmas.{all_ends, ends_written, one_end_more}
use Rattle.hash_cuts.proofs.cuts.Cuts.ends.Goals as goal

pub loop-count-init : goal.loop-count-init
loop-count-init c = record { written = refl; kept = refl; len = refl; within = omega arith; inside = omega arith }

pub loop-count-preserved : goal.loop-count-preserved
loop-count-preserved c =
    let text = c.args.text.now in
    let place = c.loop-count.place in
    one_end_more c.args.self.now text c.args.ends.now c.loop-count.ends c.loop-count.count place c.loop-count.invariant
    c.first_cut-place.ensures.sizes c.first_cut-place.result
    (c.first_cut-place.ensures.cut
    ∙ ap (first_cut c.args.self.now) (take_all (length text - place) (drop place text) (omega (arith, length-drop place text))))
    c.if-place-text.true c.loop-count-test.true

pub returns-else-place-text-clause-count : goal.returns-else-place-text-clause-count
returns-else-place-text-clause-count c = grind (arith, nat_tests, common_steps, all_ends)

pub returns-else-place-text-clause-written : goal.returns-else-place-text-clause-written
returns-else-place-text-clause-written c = grind (arith, nat_tests, common_steps, ends_written)

pub returns-after-loop-count-clause-count : goal.returns-after-loop-count-clause-count
returns-after-loop-count-clause-count c = grind (arith, nat_tests, common_steps, all_ends)

pub returns-after-loop-count-clause-written : goal.returns-after-loop-count-clause-written
returns-after-loop-count-clause-written c = grind (arith, nat_tests, common_steps, ends_written)
