-- What each step of a hash by items keeps, and that it is injective in its state and in its item.
use Rattle.std.specs.Prelude.{ℕ, ◌≡◌, ◌<◌}

-- states are below `bound`, items below `items`
pub record StepFacts (step : ℕ → ℕ → ℕ) (bound items : ℕ) : Type 0 where
  pub in_range : (h b : ℕ) → h < bound → b < items → step h b < bound
  pub state_injective : (h k b : ℕ) → h < bound → k < bound → b < items → step h b ≡ step k b → h ≡ k
  pub item_injective : (h a b : ℕ) → h < bound → a < items → b < items → step h a ≡ step h b → a ≡ b
