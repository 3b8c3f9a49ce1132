-- Key files.
use Rattle.std.specs.Prelude.{ℕ, ◌≡◌, List, Option, Ok, Result, length}
use Rattle.std.specs.Int.{w64, from_le_bytes}
use Rattle.std.specs.Io.KnownBytes.{Consumes, IsAtEnd}
use Rattle.std.specs.declared.io.Error.{Error}

-- eight bytes of those that were left were read, and are this key, the lowest first
abbrev pub IsKeyRead : (left left' : Option (List ℕ)) → ℕ → Type 0
IsKeyRead left left' key = (bytes : List ℕ) × Consumes left left' bytes × (length bytes ≡ 8) × (key ≡ from_le_bytes w64 bytes)

-- what a file holds, where that is known, is two keys, one behind the other
abbrev pub IsKeyText : (held : Option (List ℕ)) → ℕ × ℕ → Type 0
IsKeyText held keys = (between left : Option (List ℕ)) × IsKeyRead held between keys.0 × IsKeyRead between left keys.1 × IsAtEnd left

-- a file was opened, and what it holds is these keys
abbrev pub HasKeys : (opens : Result (Option (List ℕ)) Error → Type 0) → ℕ × ℕ → Type 0
HasKeys opens keys = (held : Option (List ℕ)) × opens (Ok held) × IsKeyText held keys
