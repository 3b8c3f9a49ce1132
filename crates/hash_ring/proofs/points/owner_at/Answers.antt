use Rattle.hash_ring.proofs.Lemmas.{one_start, first_owner, arith, rules, nat_tests, common_steps}
use Rattle.hash_ring.proofs.points.owner_at.Goals as goal

pub returns-clause-owns : goal.returns-clause-owns
returns-clause-owns c = search (rules, first_owner)

pub returns-clause-first : goal.returns-clause-first
returns-clause-first c = λ ordered i start.
    let points = c.args.points.now in
    grind (arith, nat_tests, common_steps, one_start points c.args.place c.first_from.result i (c.first_from.ensures.start ordered) start)
