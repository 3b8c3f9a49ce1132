use Rattle.hash_ring.proofs.Lemmas.{◌≡◌, ◌∙◌, ap, sym, subst, length, arith, ◌<◌, get_or-map, length-map, IsRing, pairs, absent, entries_of, found, len_of, none_unchanged, removed, over, pairs_remove, rules, nat_tests, common_steps}
use Rattle.hash_ring.proofs.Ring.remove.Goals as goal

pub returns-in_default-clause-value : goal.returns-in_default-clause-value
returns-in_default-clause-value g c = sym (absent _ _ c.in_default.field-0 c.in_default.ensures)

pub returns-in_default-clause-removed : goal.returns-in_default-clause-removed
returns-in_default-clause-removed g c = none_unchanged _ _ c.in_default.field-0 c.in_default.ensures

pub remove-requires : goal.remove-requires
remove-requires g c = search (rules, len_of)

pub invariant_of-self : goal.invariant_of-self
invariant_of-self g c =
    let hash = g.H.Piecewise.hash_of in
    let nodes = c.self.inside.nodes.items in
    let gone = c.in-Ok.gone in
    let below : gone < length (pairs nodes) =
    omega (arith, c.in-Ok.ensures.below, ap length (entries_of _ c.self.invariant.named _ c.self.view_is)) in
    let old = c.self.inside.points in
    let now = c.remove-kept.new.points in
    let long : length now ≡ length old.items = c.remove-kept.auto.points ∙ ap length c.deref_mut.ensures.value in
    let ring = c.remove-kept.ensures.ring hash (pairs nodes)
    (subst (IsRing hash (pairs nodes)) (sym c.deref_mut.ensures.value) c.self.invariant) below in
    grind (arith, nat_tests, common_steps, pairs_remove nodes gone, over now old.items old.len long old.ok.0)

pub returns : goal.returns
returns g c = search (rules, entries_of, get_or-map, length-map, found, removed, pairs_remove)
