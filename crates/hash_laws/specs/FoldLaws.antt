-- What a fold of a step over items keeps and loses.
use Rattle.std.specs.Prelude.{◌≡◌, ◌∷◌}
use Rattle.hash_laws.specs.Common.{ℕ, List, [], fold, All, All-head, All-tail}

module _ {S : Type 0} (step : S → ℕ → S) (is_state : S → Type 0) (IsItem : ℕ → Type 0)
    (in_range : (s : S) (item : ℕ) → is_state s → IsItem item → is_state (step s item)) where
  -- items lead from states to states
  pub fold_in_range : (s : S) (items : List ℕ) → is_state s → All IsItem items → is_state (fold step s items)
  fold_in_range s [] known all = known
  fold_in_range s (item ∷ items) known all =
      fold_in_range (step s item) items (in_range s item known (All-head IsItem item items all)) (All-tail IsItem item items all)

  -- equal states after the same items come from equal states
  pub fold_cancels : ((s t : S) (item : ℕ) → is_state s → is_state t → IsItem item → step s item ≡ step t item → s ≡ t)
      → (s t : S) (items : List ℕ) → is_state s → is_state t → All IsItem items → fold step s items ≡ fold step t items → s ≡ t
  fold_cancels state_injective s t [] ks kt all same = same
  fold_cancels state_injective s t (item ∷ items) ks kt all same =
      let here = All-head IsItem item items all in
      state_injective s t item ks kt here
      (fold_cancels state_injective (step s item) (step t item) items (in_range s item ks here) (in_range t item kt here)
      (All-tail IsItem item items all) same)
