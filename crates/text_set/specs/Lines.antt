-- The lines of a text. A line ends with a byte, newline or another.
use Rattle.std.specs.Prelude.{ℕ, ◌≡◌, ◌≢◌, ◌<◌, ◌==◌, ◌++◌, if◌then◌else◌, Option, None, Some, List, [], ◌∷◌, length, slice_index}
use Rattle.std.specs.Io.{StopsAt}
use Rattle.std.specs.Io.BufRead.{drop_through, strip_last, take_through}
use Rattle.std.specs.Io.KnownBytes.{Consumes, IsAtEnd}
use Rattle.std.specs.List.{onto_first}

-- the lines, each through the byte that ends it; the last may have none
abbrev pub lines_by : (eol : ℕ) → List ℕ → List (List ℕ)
lines_by eol [] = []
lines_by eol (byte ∷ text) = if byte == eol then (byte ∷ []) ∷ lines_by eol text else onto_first byte (lines_by eol text)

-- the lines without the byte that ends each; the last may have no end
abbrev pub line_texts : (eol : ℕ) → List ℕ → List (List ℕ)
line_texts eol [] = []
line_texts eol (byte ∷ text) = if byte == eol then [] ∷ line_texts eol text else onto_first byte (line_texts eol text)

-- the text of a line, and its end behind it
abbrev pub as_line_by : (eol : ℕ) → List ℕ → List ℕ
as_line_by eol line = strip_last eol line ++ eol ∷ []

-- no byte ends a line
abbrev pub IsBare : (eol : ℕ) → List ℕ → Type 0
IsBare eol bytes = (k : ℕ) → k < length bytes → slice_index bytes k ≢ eol

-- where the first line ends
abbrev pub IsLineEnd : (eol : ℕ) → List ℕ → Option ℕ → Type 0
IsLineEnd eol bytes None = IsBare eol bytes
IsLineEnd eol bytes (Some n) = (n < length bytes) × (slice_index bytes n ≡ eol) × ((k : ℕ) → k < n → slice_index bytes k ≢ eol)

-- this line, with its end if it has one, is the next of what is left
abbrev pub IsNext : (eol : ℕ) (left : Option (List ℕ)) (line : List ℕ) (left' : Option (List ℕ)) → Type 0
IsNext eol None line left' = Unit {0}
IsNext eol (Some text) line left' = (line ≡ take_through eol text) × (left' ≡ Some (drop_through eol text))

-- it was read
pub record ReadsNext (eol : ℕ) (left left' : Option (List ℕ)) (line : List ℕ) : Type 0 where
  pub next : IsNext eol left line left'
  pub consumed : Consumes left left' line
  pub stops : StopsAt line eol
  pub some : 0 < length line

-- nothing was left
pub record ReadsNothing (left left' : Option (List ℕ)) : Type 0 where
  pub end : IsAtEnd left
  pub consumed : Consumes left left' []
