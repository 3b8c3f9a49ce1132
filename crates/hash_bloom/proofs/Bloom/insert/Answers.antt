use Rattle.hash_bloom.proofs.Common.{common_steps, nat_tests}
use Rattle.hash_bloom.proofs.Lemmas.{length, ap, ◌∙◌, with_items_is, added_is_filter, probe_below, passes_still, passes_added, arith}
use Rattle.hash_bloom.proofs.Bloom.insert.Goals as goal

pub invariant_of-self : goal.invariant_of-self
invariant_of-self g c =
    let new = with_items_is c.self.inside.words c.insert.new.words (c.insert.auto.words ∙ c.deref_mut.ensures.len) in
    let adds = rw c.deref_mut.ensures.value at c.insert.ensures.inserted in
    rw new (added_is_filter _ _ _ c.self.invariant adds (probe_below g.F.Piecewise.hash_of g.G.Piecewise.hash_of _ c.args.key.now c.self.invariant)
    (c.insert.auto.words ∙ ap length c.deref_mut.ensures.value))

pub returns-clause-inserted : goal.returns-clause-inserted
returns-clause-inserted g c = grind (arith, nat_tests, common_steps, with_items_is)

pub returns-clause-passes : goal.returns-clause-passes
returns-clause-passes g c =
    passes_added g.F.Piecewise.hash_of g.G.Piecewise.hash_of _ _ _ c.args.key.now (returns-clause-inserted g c) (λ j probe. probe)

pub returns-clause-kept : goal.returns-clause-kept
returns-clause-kept g c = passes_still g.F.Piecewise.hash_of g.G.Piecewise.hash_of _ _ _ (returns-clause-inserted g c)
