use Rattle.hash_cuts.proofs.Common.{◌≡◌, ◌≤◌, ◌-◌, drop, ap, arith, refl, Cutting, cutting, length-take, nat_tests, common_steps}
use Rattle.hash_cuts.proofs.CutLemmas.{bytes-there, first_cut-from, rolled-on, rolled-on-four, rolled-to}
use Rattle.hash_cuts.proofs.cuts.Cuts.first_cut.Goals as goal

pub returns-then-end-self-clause-cut : goal.returns-then-end-self-clause-cut
returns-then-end-self-clause-cut c =
    let least_is = ap (λ (cuts : Cutting). cuts.least) c.self.view_is in
    let most_is = ap (λ (cuts : Cutting). cuts.most) c.self.view_is in
    first_cut-from c.args.self.now c.args.text.now c.min-end.result (grind (arith, nat_tests, common_steps))

pub fours-preserved : goal.fours-preserved
fours-preserved c =
    let view = c.self.view_is in
    let inside = c.self.inside in
    let seen = cutting inside.least inside.average inside.most inside.gear.0 inside.gear.1 in
    let text = c.args.text.now in
    let place = c.fours.place in
    let least_is = ap (λ (cuts : Cutting). cuts.least) view in
    let next = c.four_steps-one.result in
    let steps = c.four_steps-one.ensures in
    let room = c.min-end.result - place in
    let some : 4 ≤ room = omega (arith, c.in-Some.ensures.variant.0 refl, length-take room (drop place text)) in
    record {
      rolled = rw (← view) (rolled-on-four seen text inside.below c.self.invariant.0 c.self.invariant.1 place c.in-Some.bytes.now c.fours.hash
          next.0 next.1 next.2 next.3 (omega (arith, least_is, c.fours.invariant.from)) (omega (arith, some, c.min-end.ensures))
          (bytes-there text c.in-Some.bytes.now place room c.in-Some.ensures.cases.0 some) steps.one steps.two steps.three steps.four
          c.if-hash-self.false c.if-one-self.false c.if-two-self.false c.if-three-self.false
          (rw (← view) at c.fours.invariant.rolled));
      from = omega (arith, c.fours.invariant.from);
      within = omega (arith, some);
    }

pub returns-then-hash-self-2-clause-cut : goal.returns-then-hash-self-2-clause-cut
returns-then-hash-self-2-clause-cut c =
    let view = c.self.view_is in
    let inside = c.self.inside in
    let seen = cutting inside.least inside.average inside.most inside.gear.0 inside.gear.1 in
    let text = c.args.text.now in
    let place = c.loop-place.place in
    let least_is = ap (λ (cuts : Cutting). cuts.least) view in
    rw (← view) (rolled-to seen text inside.below c.self.invariant.0 c.self.invariant.1 place c.loop-place.hash
    (omega (arith, least_is, c.fours.invariant.from, c.loop-place.auto.place)) (omega (arith, c.min-end.ensures, c.loop-place-test.true))
    (rw (← view) at c.loop-place.invariant) c.if-hash-self-2.true)

pub loop-place-preserved : goal.loop-place-preserved
loop-place-preserved c =
    let view = c.self.view_is in
    let inside = c.self.inside in
    let seen = cutting inside.least inside.average inside.most inside.gear.0 inside.gear.1 in
    let text = c.args.text.now in
    let place = c.loop-place.place in
    let least_is = ap (λ (cuts : Cutting). cuts.least) view in
    rw (← view) (rolled-on seen text inside.below c.self.invariant.0 c.self.invariant.1 place c.loop-place.hash c.step-hash.result
    (omega (arith, least_is, c.fours.invariant.from, c.loop-place.auto.place)) (omega (arith, c.min-end.ensures, c.loop-place-test.true))
    c.step-hash.ensures c.if-hash-self-2.false
    (rw (← view) at c.loop-place.invariant))

pub returns-clause-cut : goal.returns-clause-cut
returns-clause-cut c =
    let most_is = ap (λ (cuts : Cutting). cuts.most) c.self.view_is in
    let ended : c.loop-place.place ≡ c.min-end.result =
    omega (arith, c.loop-place.auto.place-end c.fours.invariant.within, c.loop-place-test.false) in
    first_cut-from c.args.self.now c.args.text.now c.min-end.result (grind (arith, nat_tests, common_steps))
