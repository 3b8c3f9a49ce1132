use Rattle.hash_ring.proofs.Lemmas.{ℕ, ◌≡◌, ◌<◌, ◌≤◌, ◌∙◌, length, take, ap, sym, subst, arith, min, All, length-take-le, over, rules}
use Rattle.hash_ring.proofs.owners_of.Goals as goal
use Rattle.hash_ring.proofs.owners_of.Goals.{After-truncate}

kept : (c : After-truncate) → c.truncate.new.self.items ≡ take c.owners_at-count.result c.owners_at-count.new.nodes
kept c = search (rules, over)

pub returns-clause-own : goal.returns-clause-own
returns-clause-own c = search (rules, kept)

pub returns-clause-real : goal.returns-clause-real
returns-clause-real c = λ hash named ring.
    subst (All (λ i. i < length named)) (sym (kept c)) (c.owners_at-count.ensures.real hash named ring)

pub returns-clause-count : goal.returns-clause-count
returns-clause-count c = λ hash named ring.
    let room = c.in_ok-owners.owners in
    let lent : length c.deref_mut.result.now ≡ c.args.most = ap length c.deref_mut.ensures.value ∙ sym room.ok.0 ∙ c.in_ok-owners.ensures.len in
    let within : c.owners_at-count.result ≤ length c.owners_at-count.new.nodes =
    omega (arith, c.owners_at-count.ensures.within, c.owners_at-count.auto.nodes) in
    ap length (kept c) ∙ length-take-le c.owners_at-count.result c.owners_at-count.new.nodes within
    ∙ c.owners_at-count.ensures.count hash named ring ∙ ap (λ (n : ℕ). min n (length named)) lent
