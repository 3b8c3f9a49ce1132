-- What writes lead to from a start that is known by an equation.
use Rattle.hashers.proofs.Common.{◌≡◌, ℕ, List, fold, ap, sym, ◌∙◌, flat_map, recurrence, recurrence-pieces}

pub written_from : (step : ℕ → ℕ → ℕ) (words : List ℕ → List ℕ) (writes : List (List ℕ)) (start s h : ℕ)
    → start ≡ s → fold (λ t piece. recurrence step t (words piece)) s writes ≡ h → recurrence step start (flat_map words writes) ≡ h
written_from step words writes start s h same led =
    ap (λ t. recurrence step t (flat_map words writes)) same ∙ sym (recurrence-pieces step words s writes) ∙ led
