use Rattle.hash_cuts.proofs.Common.{◌≡◌, ◌∷◌, ◌<◌, List, ℕ, length, take, drop, ap, sym, ◌∙◌, arith, cases_lt, false≢true, Decides-eqb, AreSizes, Cutting, chunks, first_cut, nat_tests, common_steps}
use Rattle.hash_cuts.proofs.ChunkLemmas.{chunks-first, chunks-none, first_cut-le}
use Rattle.hash_cuts.proofs.cuts.ChunksIterator.next.Goals as goal

pub returns-then-is_empty-clause-steps : goal.returns-then-is_empty-clause-steps
returns-then-is_empty-clause-steps c = grind (arith, nat_tests, common_steps, Decides-eqb, chunks-none)

pub split_at-requires : goal.split_at-requires
split_at-requires c =
    omega (arith, c.first_cut.ensures.cut, first_cut-le c.self.inside.cuts.now c.first_cut.ensures.sizes c.self.inside.rest.now)

module _ (cuts : Cutting) (text : List ℕ) (n : ℕ) (front back : List ℕ) (sizes : AreSizes cuts.least cuts.average cuts.most)
    (some : 0 < length text) (cut : n ≡ first_cut cuts text) (front_is : front ≡ take n text) (back_is : back ≡ drop n text) where
  first_taken : chunks cuts text ≡ front ∷ chunks cuts back
  first_taken = grind (arith, nat_tests, common_steps, chunks-first)

taken : (c : goal.After-rest-2-1) → chunks c.self.inside.cuts.now c.self.inside.rest.now
    ≡ c.split_at.result.0.now ∷ chunks c.self.inside.cuts.now c.split_at.result.1.now
taken c = grind (arith, nat_tests, common_steps, cases_lt, false≢true, Decides-eqb, first_taken)

pub returns-clause-steps : goal.returns-clause-steps
returns-clause-steps c = ap (λ (it : Cutting × List ℕ). chunks it.0 it.1) (sym c.self.view_is) ∙ taken c

pub returns-clause-goes : goal.returns-clause-goes
returns-clause-goes c = grind (arith, nat_tests, common_steps, returns-clause-steps)
