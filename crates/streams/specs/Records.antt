-- The records of a text, as its lines or chunks, one after the other.
use Rattle.std.specs.Prelude.{ℕ, ◌≡◌, List, ◌++◌}

-- of the records of a text these come first, and then those of the rest, whatever comes behind
pub record ComeFirst (records : List ℕ → List (List ℕ)) (text : List ℕ) (first : List (List ℕ)) (rest : List ℕ) : Type 0 where
  pub stay : (more : List ℕ) → records (text ++ more) ≡ first ++ records (rest ++ more)
