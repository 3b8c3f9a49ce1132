use Rattle.hash_bloom.proofs.Lemmas.{refl, passes_still, passes_added}
use Rattle.hash_bloom.proofs.words.insert.Goals as goal

pub returns-clause-inserted : goal.returns-clause-inserted
returns-clause-inserted g c = record {
  shape = (refl, refl);
  set = rw (c.hash_of-first.ensures.value, c.hash_of-second.ensures.value) at c.set_all.ensures.set;
}

pub returns-clause-passes : goal.returns-clause-passes
returns-clause-passes g c =
    passes_added g.F.Piecewise.hash_of g.G.Piecewise.hash_of _ _ _ c.args.key.now (returns-clause-inserted g c) (λ j probe. probe)

pub returns-clause-kept : goal.returns-clause-kept
returns-clause-kept g c = passes_still g.F.Piecewise.hash_of g.G.Piecewise.hash_of _ _ _ (returns-clause-inserted g c)
