-- Where a hasher stands whose state is one number.
use Rattle.std.specs.Prelude.{ℕ, ◌≡◌, ◌<◌, List, [], ◌∷◌}
use Rattle.hash_laws.specs.Text.{IsText}

-- from the one number of the start, which is below the bound, the text leads to the state
pub record StandsAt (after : ℕ → List ℕ → ℕ) (bound state : ℕ) (from text : List ℕ) : Type 0 where
  pub start : ℕ
  pub only : from ≡ start ∷ []
  pub in_range : start < bound
  pub is_text : IsText text
  pub there : state ≡ after start text
