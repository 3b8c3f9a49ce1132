use Rattle.hash_ring.proofs.Lemmas.{◌≡◌, rules, always_returns_same, Node, is_lt, by_bytes, rise_exactly}
use Rattle.hash_ring.proofs.names_rise.Goals as goal

pub returns : goal.returns
returns c =
    let less = λ (one next : Node). is_lt (by_bytes one.name.items next.name.items) in
    rise_exactly c.args.nodes.now c.is_sorted_by.result
    (c.is_sorted_by.ensures.cases less (always_returns_same _ (λ a r. r ≡ less a.0.now a.1.0.now) _ (λ a r f' k. search rules)))
