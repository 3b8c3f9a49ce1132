use Rattle.hash_ring.proofs.Lemmas.{ltb, arith, rules, IsPartitionPoint-from_clause, IsPartitionedBy-ltb, places_rise, nat_tests, common_steps}
use Rattle.hash_ring.proofs.points.first_from.Goals as goal

pub returns-clause-start : goal.returns-clause-start
returns-clause-start c = λ ordered.
    let points = c.args.points.now in
    let at = IsPartitionPoint-from_clause
    (λ p. ltb p.place c.args.place) points c.partition_point.result c.partition_point.ensures.partitioned
    (IsPartitionedBy-ltb (λ p. p.place) points c.args.place (places_rise points ordered)) (λ a r q k. search rules) in
    grind (arith, nat_tests, common_steps)
