-- What follows for a hasher whose state is a number below a bound, and which splits a piece into items below a bound and
-- takes a step for each. The facts of the step and of the split are passed in.
use Rattle.hash_laws.specs.Common.{ℕ, ◌≡◌, ◌<◌, List, [], fold, ap, sym, ◌∙◌, All, IsText}
use Rattle.hash_laws.specs.FoldLaws.{fold_in_range, fold_cancels}

abbrev pub IsBelow : ℕ → ℕ → Type 0
IsBelow bound n = n < bound

module _ (step : ℕ → ℕ → ℕ) (bound : ℕ) (after : ℕ → List ℕ → ℕ) (items : List ℕ → List ℕ)
    (is_fold : (s : ℕ) (piece : List ℕ) → after s piece ≡ fold step s (items piece)) where
  -- a piece of no bytes has no items
  pub nothing : items [] ≡ [] → (s : ℕ) → s < bound → after s [] ≡ s
  nothing none s known = is_fold s [] ∙ ap (fold step s) none

  module _ (in_range : (s v : ℕ) → s < bound → v < bound → step s v < bound)
      (items_in_range : (piece : List ℕ) → IsText piece → All (IsBelow bound) (items piece)) where
    -- a piece leads from states in range to states in range
    pub piece_in_range : (s : ℕ) (piece : List ℕ) → s < bound → IsText piece → after s piece < bound
    piece_in_range s piece known bytes =
        rw (is_fold s piece) (fold_in_range step (IsBelow bound) (IsBelow bound) in_range s (items piece) known
        (items_in_range piece bytes))

    -- where each step is injective, so is a piece
    pub piece_injective : ((s t v : ℕ) → s < bound → t < bound → v < bound → step s v ≡ step t v → s ≡ t)
        → (s t : ℕ) (piece : List ℕ) → s < bound → t < bound → IsText piece → after s piece ≡ after t piece → s ≡ t
    piece_injective state_injective s t piece ks kt bytes same =
        fold_cancels step (IsBelow bound) (IsBelow bound) in_range state_injective s t (items piece) ks kt (items_in_range piece bytes)
        (sym (is_fold s piece) ∙ same ∙ is_fold t piece)
