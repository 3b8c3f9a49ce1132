-- Two texts that differ, and never collide.
use Rattle.std.specs.Prelude.{ℕ, ◌≡◌, ◌≢◌, ◌⊎◌, ◌<◌, ◌≤◌, List, length}

-- of one to three bytes each, or of one length of four to eight
abbrev pub DifferAndAreFew : (x y : List ℕ) → Type 0
DifferAndAreFew x y =
    (((1 ≤ length x) × (length x < 4) × (1 ≤ length y) × (length y < 4)) ⊎ ((length x ≡ length y) × (4 ≤ length x) × (length x < 9)))
    × (x ≢ y)

-- of one length of at most sixteen
abbrev pub DifferWithinSixteen : (x y : List ℕ) → Type 0
DifferWithinSixteen x y = (length x ≡ length y) × (length x < 17) × (x ≢ y)
