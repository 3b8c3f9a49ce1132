use Rattle.spread_core.proofs.Common.{◌∙◌}
use Rattle.std.proofs.lemmas.List.Sorted.{IsNonDecreasingBy-from_sort}
use Rattle.spread_core.proofs.counts.collisions.Goals as goal

pub collisions_in_order-requires : goal.collisions_in_order-requires
collisions_in_order-requires c = IsNonDecreasingBy-from_sort (λ x. x) c.sort_unstable.new.self c.sort_unstable.ensures.sorted

pub returns-clause-value : goal.returns-clause-value
returns-clause-value c =
    c.collisions_in_order.ensures
    ∙ c.collisions_in_any_order.ensures c.args.hashes.now c.sort_unstable.new.self c.sort_unstable.ensures.permutation
