-- What a line tells, or does not.
use Rattle.hash_lines.proofs.Common.{◌≡◌, inl, inr, ℕ, ◌<◌, ◌^◌, ◌&&◌, ◌++◌, refl, Bool, true, false, List, Option, Some, None, Finds, FindsShown, IsShown, MayBeTold, body, digits_of, line_of, mark, name_shown, needs_escape, hex, Sum, HashLine, name_in, width_in, arith, rules, nat_tests, common_steps, hex_value-hex, length-hex}
use Rattle.hash_lines.specs.declared.line.Form.{Form}
use Rattle.hash_lines.specs.declared.line.Form.TheVariants as form
use Rattle.hash_lines.proofs.ShownLemmas.{ShowsBody, ShowsLine}

-- what is found of one line is found of another that tells just the same
pub found_as : (Told Tells : Sum → (name : List ℕ) (number : ℕ) → List ℕ → Type 0) (text line : List ℕ)
    → ((kind : Sum) (name : List ℕ) (number : ℕ) → Told kind name number text → Tells kind name number line)
    → ((kind : Sum) (name : List ℕ) (number : ℕ) → Tells kind name number line → Told kind name number text)
    → (found : Option HashLine) → Finds Told text found → Finds Tells line found
found_as Told Tells text line to from None none = λ kind name number tells. none kind name number (from kind name number tells)
found_as Told Tells text line to from (Some entry) tells = to entry.kind entry.name.items entry.number tells

-- what is found where a name is shown so, by parts that show one name alone
pub found_by : (kind : Sum) (escapes : Bool) (shows : Sum → List ℕ → ℕ → List ℕ → Type 0) (line : List ℕ)
    → ((xs ys : List ℕ) (a b : ℕ) → shows kind xs a line → shows kind ys b line → xs ≡ ys)
    → (shown : List ℕ) (number : ℕ) → shows kind shown number line → (found : Option HashLine) → FindsShown kind number escapes shown found
    → Finds (λ other name count text. (other ≡ kind) × ((s : List ℕ) × IsShown escapes name s × shows other s count text)) line found
found_by kind escapes shows line one shown number here None none = grind (arith, nat_tests, common_steps)
found_by kind escapes shows line one shown number here (Some e) (is_kind, is_number, is) =
    (is_kind, (shown, is, rw (is_kind, is_number) here))

-- a line without its mark that is written shows what it was written of
body_shown : (kinds : List Sum) (default kind : Sum) (form : Form) → MayBeTold kinds default form kind
    → (escapes : Bool) (name : List ℕ) (number : ℕ) → number < 16 ^ digits_of (width_in kind)
    → ShowsBody kinds default escapes kind name number
    (body form (name_in kind) (name_shown escapes name) (hex (digits_of (width_in kind)) number))
body_shown kinds default kind form.Tagged may escapes name number small = search (rules, length-hex, hex_value-hex)
body_shown kinds default kind form.Untagged may escapes name number small =
    let digits = hex (digits_of (width_in kind)) number in
    inr (may, (digits, (length-hex (digits_of (width_in kind)) number, hex_value-hex (digits_of (width_in kind)) number small), inl refl))

-- the same of a line
pub line_shown : (kinds : List Sum) (default kind : Sum) (form : Form) → MayBeTold kinds default form kind
    → (escapes : Bool) (name : List ℕ) (number : ℕ) → number < 16 ^ digits_of (width_in kind)
    → ShowsLine kinds default kind name number (line_of form escapes kind name number)
line_shown kinds default kind form may escapes name number small = at (escapes && needs_escape name)
  where
    at : (marked : Bool) → ShowsLine kinds default kind name number
        (mark marked ++ body form (name_in kind) (name_shown marked name) (hex (digits_of (width_in kind)) number))
    at true = inr (
      body form (name_in kind) (name_shown true name) (hex (digits_of (width_in kind)) number),
      refl,
      body_shown kinds default kind form may true name number small,
    )
    at false = inl (body_shown kinds default kind form may false name number small)
