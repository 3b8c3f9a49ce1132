-- What a line tells.
use Rattle.std.specs.Prelude.{ℕ, ◌≡◌, ◌≢◌, ◌⊎◌, ◌==◌, ◌&&◌, not, Bool, true, false, List, [], ◌∷◌, Contains, Option, Some, None}
use Rattle.std.specs.List.{AllByRecursion, list_all, list_any}
use Rattle.std.specs.Str.{bytes_eq}
use Rattle.hash_lines.specs.declared.line.Form.{Form}
use Rattle.hash_lines.specs.declared.line.Form.TheVariants as form
use Rattle.hash_lines.specs.declared.sums.Sum.{Sum}
use Rattle.hash_lines.specs.declared.parse.HashLine.{HashLine}
use Rattle.hash_lines.specs.Line.{digits_of, name_shown, ShowsTagged, ShowsUntagged}
use Rattle.hash_lines.specs.Sums.{name_in, width_in}

-- a name is shown so, with escapes or without. It has some byte: a line that has lost its name tells nothing
abbrev pub IsShown : Bool → (name shown : List ℕ) → Type 0
IsShown escapes name shown = (name ≢ []) × (name_shown escapes name ≡ shown)

-- a tagged line of this kind without its mark, with escapes or without
abbrev pub TellsTagged : Sum → Bool → (name : List ℕ) (number : ℕ) → List ℕ → Type 0
TellsTagged kind escapes name number body =
    (shown : List ℕ) × IsShown escapes name shown × ShowsTagged (name_in kind) (digits_of (width_in kind)) shown number body

abbrev pub TellsUntagged : Sum → Bool → (name : List ℕ) (number : ℕ) → List ℕ → Type 0
TellsUntagged kind escapes name number body =
    (shown : List ℕ) × IsShown escapes name shown × ShowsUntagged (digits_of (width_in kind)) shown number body

-- a line of this kind alone
abbrev pub TellsOf : Sum → (Sum → Bool → (name : List ℕ) (number : ℕ) → List ℕ → Type 0) → Bool → Sum → (name : List ℕ) (number : ℕ)
    → List ℕ → Type 0
TellsOf kind Tells escapes other name number body = (other ≡ kind) × Tells other escapes name number body

-- a line without its mark: a tagged one of one of these kinds, or an untagged one of the default
abbrev pub TellsBody : List Sum → (default : Sum) → Bool → Sum → (name : List ℕ) (number : ℕ) → List ℕ → Type 0
TellsBody kinds default escapes kind name number body =
    (Contains kinds kind × TellsTagged kind escapes name number body) ⊎ ((kind ≡ default) × TellsUntagged kind escapes name number body)

-- a line with escapes, behind a backslash
abbrev pub TellsEscaped : List Sum → (default : Sum) → Sum → (name : List ℕ) (number : ℕ) → List ℕ → Type 0
TellsEscaped kinds default kind name number line =
    (body : List ℕ) × (92 ∷ body ≡ line) × TellsBody kinds default true kind name number body

-- a line, with escapes or without
abbrev pub Tells : List Sum → (default : Sum) → Sum → (name : List ℕ) (number : ℕ) → List ℕ → Type 0
Tells kinds default kind name number line =
    TellsBody kinds default false kind name number line ⊎ TellsEscaped kinds default kind name number line

-- a line tells no hash
abbrev pub TellsNothing : List Sum → (default : Sum) → List ℕ → Type 0
TellsNothing kinds default line = (other : Sum) (name : List ℕ) (number : ℕ) → ¬ (Tells kinds default other name number line)

-- what is found of a line: what it tells, or nothing exactly where it tells none
abbrev pub Finds : (Tells : Sum → (name : List ℕ) (number : ℕ) → List ℕ → Type 0) → (line : List ℕ) → Option HashLine → Type 0
Finds Tells line None = (other : Sum) (name : List ℕ) (number : ℕ) → ¬ (Tells other name number line)
Finds Tells line (Some entry) = Tells entry.kind entry.name.items entry.number line

-- the same of a line of this kind and number, by its name as it is shown
abbrev pub FindsShown : Sum → (number : ℕ) → Bool → (shown : List ℕ) → Option HashLine → Type 0
FindsShown kind number escapes shown None = (name : List ℕ) → ¬ (IsShown escapes name shown)
FindsShown kind number escapes shown (Some entry) =
    (entry.kind ≡ kind) × (entry.number ≡ number) × IsShown escapes entry.name.items shown

-- a kind that a line of this form may tell: tagged one of these, untagged the default
abbrev pub MayBeTold : List Sum → (default : Sum) → Form → Sum → Type 0
MayBeTold kinds default form.Tagged kind = Contains kinds kind
MayBeTold kinds default form.Untagged kind = kind ≡ default

-- a tag has no space and no backslash
abbrev pub IsTag : List ℕ → Type 0
IsTag tag = AllByRecursion (λ byte. (byte ≢ 32) × (byte ≢ 92)) tag

-- the kinds have tags, and no two have the same
pub record AreTags (kinds : List Sum) (default : Sum) : Type 0 where
  pub each : (kind : Sum) → Contains kinds kind → IsTag (name_in kind)
  pub apart : (kind other : Sum) → Contains kinds kind → Contains kinds other → name_in kind ≡ name_in other → kind ≡ other

-- the same, seen of their names
abbrev pub is_tag : List ℕ → Bool
is_tag name = list_all (λ byte. not (byte == 32) && not (byte == 92)) name

abbrev pub are_tags : (names : List (List ℕ)) → Bool
are_tags [] = true
are_tags (name ∷ more) = is_tag name && (not (list_any (bytes_eq name) more) && are_tags more)
