-- Lines that tell the hash of a file.
use Rattle.std.specs.Prelude.{ℕ, ◌≡◌, ◌⊎◌, ◌&&◌, if◌then◌else◌, Bool, List, [], ◌∷◌, ◌++◌, Some, length, codes}
use Rattle.hash_lines.specs.Escape.{escape, needs_escape}
use Rattle.streams.specs.Hex.{hex, hex_value}
use Rattle.hash_lines.specs.declared.line.Form.{Form}
use Rattle.hash_lines.specs.declared.line.Form.TheVariants as form
use Rattle.hash_lines.specs.declared.line.Width.{Width}
use Rattle.hash_lines.specs.declared.line.Width.TheVariants as width
use Rattle.hash_lines.specs.declared.sums.Sum.{Sum}
use Rattle.hash_lines.specs.Sums.{name_in, width_in}

-- a name in a line, with escapes or without
abbrev pub name_shown : Bool → List ℕ → List ℕ
name_shown escapes name = if escapes then escape name else name

-- what a line begins with that has escapes
abbrev pub mark : Bool → List ℕ
mark escapes = if escapes then 92 ∷ [] else []

abbrev pub tagged : (tag shown digits : List ℕ) → List ℕ
tagged tag shown digits = tag ++ (codes " (" ++ (shown ++ (codes ") = " ++ digits)))

abbrev pub untagged : (shown digits : List ℕ) → List ℕ
untagged shown digits = digits ++ (codes "  " ++ shown)

-- the same with the mark of a binary file
abbrev pub starred : (shown digits : List ℕ) → List ℕ
starred shown digits = digits ++ (codes " *" ++ shown)

-- the line without its mark
abbrev pub body : Form → (tag shown digits : List ℕ) → List ℕ
body form.Tagged tag shown digits = tagged tag shown digits
body form.Untagged tag shown digits = untagged shown digits

-- how many digits
abbrev pub digits_of : Width → ℕ
digits_of width.Eight = 8
digits_of width.Sixteen = 16
digits_of width.ThirtyTwo = 32

-- the line of a file's hash; with escapes only where the name needs them
abbrev pub line_of : Form → (escapes : Bool) → Sum → (name : List ℕ) (number : ℕ) → List ℕ
line_of form escapes kind name number =
    mark (escapes && needs_escape name)
    ++ body form (name_in kind) (name_shown (escapes && needs_escape name) name) (hex (digits_of (width_in kind)) number)

-- digits of either case, so many, of this number
abbrev pub ShowsNumber : (count number : ℕ) → List ℕ → Type 0
ShowsNumber count number digits = (length digits ≡ count) × (hex_value digits ≡ Some number)

-- a tagged line without its mark, with such digits
abbrev pub ShowsTagged : (tag : List ℕ) (count : ℕ) (shown : List ℕ) (number : ℕ) → List ℕ → Type 0
ShowsTagged tag count shown number line = (digits : List ℕ) × ShowsNumber count number digits × (tagged tag shown digits ≡ line)

-- an untagged line without its mark, with such digits; in front of the name stand two spaces, or a space and a star
abbrev pub ShowsUntagged : (count : ℕ) (shown : List ℕ) (number : ℕ) → List ℕ → Type 0
ShowsUntagged count shown number line = (digits : List ℕ) × ShowsNumber count number digits
    × ((untagged shown digits ≡ line) ⊎ (starred shown digits ≡ line))
