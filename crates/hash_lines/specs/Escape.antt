-- Names in a line, with escapes.
use Rattle.std.specs.Prelude.{ℕ, ◌==◌, if◌then◌else◌, Bool, List, [], ◌∷◌, ◌++◌, Option, Some, None, is_some}
use Rattle.std.specs.List.{list_any}

-- the letter behind the backslash of a byte that is escaped: n of a newline, r of a carriage return, and a backslash of itself
abbrev pub letter : ℕ → Option ℕ
letter byte = if byte == 10 then Some 110 else if byte == 13 then Some 114 else if byte == 92 then Some 92 else None

-- the byte that has this letter
abbrev pub original : ℕ → Option ℕ
original letter = if letter == 110 then Some 10 else if letter == 114 then Some 13 else if letter == 92 then Some 92 else None

-- a byte, behind a backslash its letter if it has one
abbrev pub escaped_byte : ℕ → List ℕ
escaped_byte byte = of (letter byte)
  where
    of : Option ℕ → List ℕ
    of None = byte ∷ []
    of (Some letter) = 92 ∷ letter ∷ []

-- a name with its escapes
abbrev pub escape : List ℕ → List ℕ
escape [] = []
escape (byte ∷ more) = escaped_byte byte ++ escape more

-- whether a name has a byte that is escaped
abbrev pub needs_escape : List ℕ → Bool
needs_escape name = list_any (λ byte. is_some (letter byte)) name
