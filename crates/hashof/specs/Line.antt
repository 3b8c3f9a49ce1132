-- The line that tells a hash.
use Rattle.std.specs.Prelude.{ℕ, List, [], ◌∷◌, ◌++◌, decimal}

-- the line that tells a number: its decimal digits, without leading zeros, and a newline
abbrev pub line_of : ℕ → List ℕ
line_of number = decimal number ++ 10 ∷ []
