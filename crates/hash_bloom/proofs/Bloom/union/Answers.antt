use Rattle.hash_bloom.proofs.Lemmas.{length, ap, refl, ◌∙◌, with_items_is, joined_is_filter, passes_still}
use Rattle.hash_bloom.proofs.Bloom.union.Goals as goal

pub invariant_of-self : goal.invariant_of-self
invariant_of-self g c =
    let new = with_items_is c.self.inside.words c.union.new.words (c.union.auto.words ∙ c.deref_mut.ensures.len) in
    let adds = rw (c.deref_mut.ensures.value, c.deref.ensures.value) at (c.union.ensures.united c.self.inside.bits c.self.inside.probes) in
    let fits = rw (← c.self.view_is, ← c.other.view_is) at c.requires in
    rw new (joined_is_filter _ _ _ c.self.invariant c.other.invariant fits adds (c.union.auto.words ∙ ap length c.deref_mut.ensures.value))

pub returns-clause-united : goal.returns-clause-united
returns-clause-united g c =
    let new = with_items_is c.self.inside.words c.union.new.words (c.union.auto.words ∙ c.deref_mut.ensures.len) in
    let adds = rw (c.deref_mut.ensures.value, c.deref.ensures.value) at (c.union.ensures.united c.self.inside.bits c.self.inside.probes) in
    rw (← c.self.view_is) (rw (← c.other.view_is) (record { shape = (refl, refl); set = rw new adds.set }))

pub returns-clause-kept : goal.returns-clause-kept
returns-clause-kept g c = passes_still g.F.Piecewise.hash_of g.G.Piecewise.hash_of _ _ _ (returns-clause-united g c)
