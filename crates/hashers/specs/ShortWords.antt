-- Words of letters.
use Rattle.std.specs.Prelude.{ℕ, ◌≤◌, List, length, All}

-- at most six letters from a to z
pub record IsShortWord (x : List ℕ) : Type 0 where
  pub short : length x ≤ 6
  pub letters : All (λ letter. (97 ≤ letter) × (letter ≤ 122)) x
