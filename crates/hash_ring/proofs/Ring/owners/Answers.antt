use Rattle.hash_ring.proofs.Lemmas.{ℕ, ◌≡◌, ◌<◌, ◌∙◌, length, arith, ap, sym, subst, length-map, texts, AreOwners, IsRing, names_at, pair_of, pairs, All, IfOk-weaker, len_of, different, rules, nat_tests, common_steps}
use Rattle.std.specs.FinMap as fin
use Rattle.hash_ring.proofs.Ring.owners.Goals as goal

pub names_of-requires : goal.names_of-requires
names_of-requires g c =
    let hash = g.H.Piecewise.hash_of in
    let nodes = c.self.inside.nodes.items in
    let ring = subst (IsRing hash (pairs nodes)) (sym c.deref.ensures.value) c.self.invariant in
    let many = length-map nodes pair_of ∙ ap length (sym c.deref-2.ensures.value) in
    subst (λ found. All (λ i. i < length c.deref-2.result.now) found) (sym c.deref-3.ensures.value)
    (subst (λ (n : ℕ). All (λ i. i < n) c.in_ok-owners.owners.items) many (c.in_ok-owners.ensures.real hash (pairs nodes) ring))

pub returns-clause-own : goal.returns-clause-own
returns-clause-own g c =
    let hash = g.H.Piecewise.hash_of in
    let nodes = c.self.inside.nodes.items in
    let ring = subst (IsRing hash (pairs nodes)) (sym c.deref.ensures.value) c.self.invariant in
    let own = subst (λ m. AreOwners hash m c.hash_of.result (names_at (pairs nodes) c.in_ok-owners.owners.items)) c.self.view_is
    (c.in_ok-owners.ensures.own hash (pairs nodes) ring) in
    search (rules, IfOk-weaker)

pub returns-clause-count : goal.returns-clause-count
returns-clause-count g c =
    let hash = g.H.Piecewise.hash_of in
    let nodes = c.self.inside.nodes in
    let ring = subst (IsRing hash (pairs nodes.items)) (sym c.deref.ensures.value) c.self.invariant in
    let found = c.deref-3.result.now in
    let all : length nodes.items ≡ fin.len c.args.self.now =
    len_of nodes.items _ c.self.invariant.named c.self.view_is ∙ sym (fin.len-entries _) in
    let count = ap length c.deref-3.ensures.value ∙ c.in_ok-owners.ensures.count hash (pairs nodes.items) ring in
    grind (arith, nat_tests, common_steps, length-map nodes.items pair_of)

pub returns-clause-different : goal.returns-clause-different
returns-clause-different g c =
    let hash = g.H.Piecewise.hash_of in
    IfOk-weaker c.names_of.result _ _ (λ xs own. different hash c.args.self.now (hash c.args.key.now) (texts xs.items) own)
    (returns-clause-own g c)
