use Rattle.hash_ring.proofs.Lemmas.{◌≡◌, ◌<◌, ◌∙◌, ap, sym, subst, arith, length, get_or_default, length-map, nat_tests, eqb-true, IsOwner, IsRing, name_at, pairs, ring_of, is_there, name_here, no_owner, no_points, none, rules, common_steps}
use Rattle.hash_ring.proofs.Ring.owner_at.Goals as goal

pub returns-then-is_empty-clause-none : goal.returns-then-is_empty-clause-none
returns-then-is_empty-clause-none g c =
    let points = c.self.inside.points in
    let none = eqb-true _ _ (sym c.if-is_empty.ensures) in
    sym c.self.view_is ∙ no_points g.H.Piecewise.hash_of (pairs c.self.inside.nodes.items) points.items c.self.invariant
    (sym points.ok.0 ∙ none)

pub index-requires : goal.index-requires
index-requires g c = search (rules, none, get_or_default, length-map, is_there)

pub returns-clause-owns : goal.returns-clause-owns
returns-clause-owns g c =
    let hash = g.H.Piecewise.hash_of in
    let nodes = c.self.inside.nodes.items in
    let points = c.self.inside.points in
    let k = c.owner_at.result in
    let some : 0 < length points.items = grind (arith, nat_tests, points.ok.0, c.if-is_empty.ensures) in
    let same : length c.deref.result.now ≡ length points.items = ap length c.deref.ensures.value in
    let has : 0 < length c.deref.result.now = omega (arith, some, same) in
    let below : k < length points.items = omega (arith, same, c.owner_at.ensures.within has) in
    let name : name_at (pairs nodes) points.items k ≡ c.deref-2.result.now =
    grind (arith, nat_tests, common_steps, name_here, get_or_default, none) in
    let ring = subst (IsRing hash (pairs nodes)) (sym c.deref.ensures.value) c.self.invariant in
    subst (λ nodes. IsOwner hash nodes c.args.place c.deref-2.result.now) c.self.view_is
    (subst (IsOwner hash (ring_of nodes) c.args.place) (ap (λ ps. name_at (pairs nodes) ps k) c.deref.ensures.value ∙ name)
    (c.owner_at.ensures.owns hash (pairs nodes) has ring))

pub returns-clause-some : goal.returns-clause-some
returns-clause-some g c =
    let hash = g.H.Piecewise.hash_of in
    λ none. no_owner hash c.args.place (c.deref-2.result.now)
    (subst (λ nodes. IsOwner hash nodes c.args.place c.deref-2.result.now) none (returns-clause-owns g c))
