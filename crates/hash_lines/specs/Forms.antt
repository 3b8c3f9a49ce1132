-- Lines as other programs write them, each beside the line of ours that tells the same.
use Rattle.std.specs.Prelude.{ℕ, ◌≡◌, ◌≢◌, ◌==◌, ◌<◌, ◌⊎◌, ◌||◌, ◌&&◌, if◌then◌else◌, nat_le, Bool, true, false, is_some, All, Option, Some, None, Vec, List, [], ◌∷◌, ◌++◌, length, map, codes}
use Rattle.std.specs.Char.{is_ascii_whitespace, to_ascii_lowercase}
use Rattle.std.specs.List.{list_all}
use Rattle.std.specs.Str.{IsTrimAsciiEnd, IsTrimAsciiStart}
use Rattle.streams.specs.Hex.{digit_value}
use Rattle.std.specs.declared.alloc.Global.{Global}
use Rattle.hash_lines.specs.Line.{tagged, untagged}
use Rattle.hash_lines.specs.Told.{Tells}
use Rattle.hash_lines.specs.declared.sums.Sum.{Sum}
use Rattle.hash_lines.specs.declared.parse.HashLine.{HashLine}

-- no byte is this one
abbrev pub Lacks : (mark : ℕ) → List ℕ → Type 0
Lacks mark bytes = All (λ byte. byte ≢ mark) bytes

-- a line in the shape of a tagged one, with any blanks or none round its marks. The name stands between the first parenthesis that opens
-- and the last that closes
pub record HasTag (line tag shown digits : List ℕ) : Type 0 where
  pub front : List ℕ
  pub back : List ℕ
  pub line_is : front ++ 40 ∷ (shown ++ 41 ∷ back) ≡ line
  pub opens_first : Lacks 40 front
  pub closes_last : Lacks 41 back
  pub tag_is : IsTrimAsciiEnd front tag
  pub value : List ℕ
  pub mark_is : IsTrimAsciiStart back (61 ∷ value)
  pub digits_are : IsTrimAsciiStart value digits

-- a line begins with a word, and has a blank of any sort behind it
pub record HasWord (line word behind : List ℕ) : Type 0 where
  pub blank : ℕ
  pub line_is : word ++ blank ∷ behind ≡ line
  pub is_blank : is_ascii_whitespace blank ≡ true
  pub no_blank : All (λ byte. is_ascii_whitespace byte ≡ false) word

-- a tagged line with other blanks or none round its marks, and with letters of either case in its tag, as openssl writes it
abbrev pub IsTaggedForm : (line plain : List ℕ) → Type 0
IsTaggedForm line plain = (tag : List ℕ) × (shown : List ℕ) × (digits : List ℕ) × HasTag line tag shown digits
    × (tagged (map to_ascii_lowercase tag) shown digits ≡ plain)

-- a name without the space or the star in front of it, if one is there
abbrev pub unmarked : List ℕ → List ℕ
unmarked [] = []
unmarked (first ∷ more) = if first == 32 || first == 42 then more else first ∷ more

-- an untagged line with one blank, and behind it a space, a star or nothing in front of the name
abbrev pub IsBlankForm : (line plain : List ℕ) → Type 0
IsBlankForm line plain = (digits : List ℕ) × (behind : List ℕ) × HasWord line digits behind × (untagged (unmarked behind) digits ≡ plain)

-- whether a word is a number of 32 hexadecimal digits or more, as those of md5sum and sha256sum, or a backslash and such a number
abbrev pub is_long : List ℕ → Bool
is_long digits = nat_le 32 (length digits) && list_all (λ byte. is_some (digit_value byte)) digits

abbrev pub is_sum : List ℕ → Bool
is_sum [] = false
is_sum (first ∷ more) = if first == 92 then is_long more else is_long (first ∷ more)

-- a line ends in blanks and eight bytes behind this
pub record EndsInDigits (line shown digits : List ℕ) : Type 0 where
  pub front : List ℕ
  pub line_is : front ++ digits ≡ line
  pub eight : length digits ≡ 8
  pub shown_is : IsTrimAsciiEnd front shown
  pub some_blank : length shown < length front

-- a line in the shape of one of an SFV file: the name, blanks, and eight digits of a CRC-32. It neither has the shape of a tagged line,
-- nor begins with the long number of another hash
pub record HasCrc (line shown digits : List ℕ) : Type 0 where
  pub ends : EndsInDigits line shown digits
  pub no_tag : (tag name number : List ℕ) → ¬ (HasTag line tag name number)
  pub no_sum : (word behind : List ℕ) → HasWord line word behind → is_sum word ≡ false

abbrev pub IsSfvForm : (line plain : List ℕ) → Type 0
IsSfvForm line plain = (shown : List ℕ) × (digits : List ℕ) × HasCrc line shown digits × (tagged (codes "crc32") shown digits ≡ plain)

-- one of ours, or a line in another program's form, but for those of SFV files
abbrev pub IsForm : (line plain : List ℕ) → Type 0
IsForm line plain = (line ≡ plain) ⊎ IsTaggedForm line plain ⊎ IsBlankForm line plain

-- a line tells this in a form: the line of ours that tells the same tells it
abbrev pub TellsIn : (Form : (line plain : List ℕ) → Type 0) → List Sum → (default : Sum) → Sum → (name : List ℕ) (number : ℕ)
    → List ℕ → Type 0
TellsIn Form kinds default kind name number line = (plain : List ℕ) × Form line plain × Tells kinds default kind name number plain

abbrev pub TellsNoneIn : (Form : (line plain : List ℕ) → Type 0) → List Sum → (default : Sum) → List ℕ → Type 0
TellsNoneIn Form kinds default line = (other : Sum) (name : List ℕ) (number : ℕ) → ¬ (TellsIn Form kinds default other name number line)

-- what is found of a line of ours that tells the same in a form: it, or nothing exactly where a line is in no such form
abbrev pub FindsForm : (Form : (line plain : List ℕ) → Type 0) → List ℕ → Option (Vec ℕ Global) → Type 0
FindsForm Form line None = (plain : List ℕ) → ¬ (Form line plain)
FindsForm Form line (Some plain) = Form line plain.items

-- what is found of that line of ours, if there is one
abbrev pub FindsOf : (finds : List ℕ → Option HashLine → Type 0) → Option (Vec ℕ Global) → Option HashLine → Type 0
FindsOf finds None found = found ≡ None
FindsOf finds (Some plain) found = finds plain.items found

-- what a line tells behind its first blanks: as a line of an SFV file only if it tells nothing in any other form, and such lines are taken
abbrev pub TellsSo : (sfv : Bool) → List Sum → (default : Sum) → Sum → (name : List ℕ) (number : ℕ) → List ℕ → Type 0
TellsSo sfv kinds default kind name number line = (rest : List ℕ) × IsTrimAsciiStart line rest
    × (TellsIn IsForm kinds default kind name number rest
    ⊎ ((sfv ≡ true) × TellsNoneIn IsForm kinds default rest × TellsIn IsSfvForm kinds default kind name number rest))

abbrev pub TellsNothingSo : (sfv : Bool) → List Sum → (default : Sum) → List ℕ → Type 0
TellsNothingSo sfv kinds default line =
    (other : Sum) (name : List ℕ) (number : ℕ) → ¬ (TellsSo sfv kinds default other name number line)
