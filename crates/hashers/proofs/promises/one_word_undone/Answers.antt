use Rattle.hashers.proofs.Common.{ℕ, ◌≡◌, List, [], ◌∷◌, fold, ap, sym, ◌∙◌, recurrence, recurrence-fold, written, all_written}
use Rattle.hash_writes.specs.declared.writes.HasherWrite.{HasherWrite}
use Rattle.hashers.proofs.promises.one_word_undone.Goals as goal

-- a list of one write that is one word takes the state one step
module _ (step : ℕ → ℕ → ℕ) (words : List ℕ → List ℕ) (v : ℕ) (write : HasherWrite) (writes : List HasherWrite)
    (alone : writes ≡ write ∷ []) (is_word : words (written write) ≡ v ∷ []) where
  one_step : (s : ℕ) → fold (λ t piece. recurrence step t (words piece)) s (all_written writes) ≡ step s v
  one_step s =
      ap (λ list. fold (λ t piece. recurrence step t (words piece)) s (all_written list)) alone
      ∙ ap (recurrence step s) is_word ∙ recurrence-fold step s (v ∷ [])

pub returns-clause-there : goal.returns-clause-there
returns-clause-there g c =
    c.answer-there.ensures.value ∙ c.run_writes.ensures.state
    ∙ one_step g.W.FxWord.step g.W.FxSplit.words _ _ _ c.from_ref-writes.ensures.value c.requires _

pub returns-clause-there_and_back : goal.returns-clause-there_and_back
returns-clause-there_and_back g c =
    c.unwrite_word.ensures.undone _ c.answer-before.ensures.in_range
    (sym (c.run_writes.ensures.state ∙ one_step g.W.FxWord.step g.W.FxSplit.words _ _ _ c.from_ref-writes.ensures.value c.requires _))

pub returns-clause-back_and_there : goal.returns-clause-back_and_there
returns-clause-back_and_there g c =
    c.run_writes-2.ensures.state
    ∙ one_step g.W.FxWord.step g.W.FxSplit.words _ _ _ c.from_ref-writes.ensures.value c.requires _ ∙ c.unwrite_word-2.ensures.back
