-- A text filled up with zeros.
use Rattle.std.specs.Prelude.{ℕ, ◌-◌, List, ◌++◌, length, replicate}

-- the text and zeros, up to n bytes
abbrev pub zero_filled : ℕ → List ℕ → List ℕ
zero_filled n text = text ++ replicate (n - length text) 0
