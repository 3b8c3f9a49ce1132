-- At how many places two lists differ.
use Rattle.std.specs.Prelude.{ℕ, ◌+◌, ◌==◌, List, [], ◌∷◌, if◌then◌else◌}

-- as far as both go
abbrev pub differences : List ℕ → List ℕ → ℕ
differences [] y = 0
differences (a ∷ x) [] = 0
differences (a ∷ x) (b ∷ y) = (if a == b then 0 else 1) + differences x y
