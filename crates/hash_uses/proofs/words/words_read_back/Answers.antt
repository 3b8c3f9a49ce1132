use Rattle.std.proofs.Common.{ℕ, ◌≡◌, ◌≤◌, arith, ap, subst, ◌∙◌, inl, inr, get_or, List, Bor}
use Rattle.std.proofs.lemmas.Bool.{cases_lt}
use Rattle.std.proofs.lemmas.List.{get_or_default}
use Rattle.hash_bloom.specs.Filter.{Passes}
use Rattle.hash_uses.proofs.words.words_read_back.Goals as goal

pub loop-word-preserved : goal.loop-word-preserved
loop-word-preserved g c k d within =
    let last : (c.loop-word.word-index ≤ k → c.loop-word.word-index ≡ k) = λ le. omega (arith, le, within) in
    elim (cases_lt k c.loop-word.word-index) [
      | inl before ↦ c.insert.ensures.kept _ (c.loop-word.invariant k d before)
      | inr le ↦ subst
          (λ (word : Bor (List ℕ)). Passes g.F.Piecewise.hash_of g.G.Piecewise.hash_of c.insert.new.self word.now)
          (get_or_default c.args.words.now c.loop-word.word-index _ d (omega arith)
          ∙ ap (λ at. get_or c.args.words.now at d) (last le))
          c.insert.ensures.passes
    ]
