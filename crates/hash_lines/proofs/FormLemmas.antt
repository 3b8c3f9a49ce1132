-- Lines in other programs' forms.
use Rattle.hash_lines.proofs.Common.{◌≡◌, ◌≢◌, inl, inr, ℕ, Bool, true, false, All, List, [], ◌∷◌, ◌++◌, Option, Some, None, MatchOption, Vec, refl, sym, ap, ◌∙◌, subst, Global, Finds, Tells, TellsNothing, Sum, is_sum, EndsInDigits, FindsForm, FindsOf, HasCrc, HasTag, HasWord, IsBlankForm, IsForm, IsSfvForm, IsTaggedForm, Lacks, TellsIn, TellsNoneIn, TellsSo, is_ascii_whitespace, All-head, All-tail, HashLine, Bor, arith, rules, nat_tests, common_steps}
use Rattle.std.specs.Str.{IsTrimAsciiEnd, IsTrimAsciiStart}
use Rattle.std.proofs.lemmas.Str.Ascii.{trim_ascii_end_is, trim_ascii_start_is}
use Rattle.hash_lines.proofs.TellsLemmas.{found_as}
use Rattle.hash_lines.proofs.LineLemmas.{first_one, same_ends}

-- a byte of which P does not hold is in no text all of whose bytes P holds of
pub all_not : (P : ℕ → Type 0) (m : ℕ) → ¬ (P m) → (xs ys : List ℕ) → ¬ (All P (xs ++ m ∷ ys))
all_not P m not_m [] ys all = not_m (All-head P m ys all)
all_not P m not_m (x ∷ xs) ys all = all_not P m not_m xs ys (All-tail P x (xs ++ m ∷ ys) all)

pub lacks_no_cut : (mark : ℕ) (xs ys bytes : List ℕ) → xs ++ mark ∷ ys ≡ bytes → ¬ (Lacks mark bytes)
lacks_no_cut mark xs ys bytes is lacks =
    all_not (λ b. b ≢ mark) mark (λ no. no refl) xs ys (subst (Lacks mark) (sym is) lacks)

-- two texts are cut at the same place at the last such byte
pub last_one : (mark : ℕ) (xs ys us vs : List ℕ) → Lacks mark ys → Lacks mark vs → xs ++ mark ∷ ys ≡ us ++ mark ∷ vs
    → (xs ≡ us) × (ys ≡ vs)
last_one mark [] ys [] vs here there same = (refl, cc)
last_one mark [] ys (u ∷ us) vs here there same =
    let is : us ++ mark ∷ vs ≡ ys = cc in absurd (lacks_no_cut mark us vs ys is here)
last_one mark (x ∷ xs) ys [] vs here there same =
    let is : xs ++ mark ∷ ys ≡ vs = cc in absurd (lacks_no_cut mark xs ys vs is there)
last_one mark (x ∷ xs) ys (u ∷ us) vs here there same =
    let head : x ≡ u = cc in
    let more : xs ++ mark ∷ ys ≡ us ++ mark ∷ vs = cc in
    let rest = last_one mark xs ys us vs here there more in
    (ap (λ b. b ∷ xs) head ∙ ap (λ t. u ∷ t) rest.0, rest.1)

-- a text is trimmed in one way
pub start_one : (text one other : List ℕ) → IsTrimAsciiStart text one → IsTrimAsciiStart text other → one ≡ other
start_one text one other is also = trim_ascii_start_is text one is ∙ sym (trim_ascii_start_is text other also)

pub end_one : (text one other : List ℕ) → IsTrimAsciiEnd text one → IsTrimAsciiEnd text other → one ≡ other
end_one text one other is also = trim_ascii_end_is text one is ∙ sym (trim_ascii_end_is text other also)

-- what stands in front of the first parenthesis and behind it
open_one : (line front later tag shown digits : List ℕ) → front ++ 40 ∷ later ≡ line → Lacks 40 front
    → (has : HasTag line tag shown digits) → (front ≡ has.front) × (later ≡ shown ++ 41 ∷ has.back)
open_one line front later tag shown digits is lacks has =
    first_one (λ b. b ≢ 40) 40 40 (λ no. no refl) (λ no. no refl) front later has.front (shown ++ 41 ∷ has.back) lacks has.opens_first
    (is ∙ sym has.line_is)

-- the same round the last one that closes
close_one : (line front later name back tag shown digits : List ℕ) → front ++ 40 ∷ later ≡ line → Lacks 40 front
    → name ++ 41 ∷ back ≡ later → Lacks 41 back → (has : HasTag line tag shown digits)
    → (front ≡ has.front) × (name ≡ shown) × (back ≡ has.back)
close_one line front later name back tag shown digits is lacks behind last has =
    let (fronts, laters) = open_one line front later tag shown digits is lacks has in
    let (names, backs) = last_one 41 name back shown has.back last has.closes_last (behind ∙ laters) in
    (fronts, names, backs)

-- a line that has no such parenthesis, or no equals sign behind, has no tag
pub no_open : (line : List ℕ) → Lacks 40 line → (tag shown digits : List ℕ) → ¬ (HasTag line tag shown digits)
no_open line lacks tag shown digits has = lacks_no_cut 40 has.front (shown ++ 41 ∷ has.back) line has.line_is lacks

pub no_close : (line front later : List ℕ) → front ++ 40 ∷ later ≡ line → Lacks 40 front → Lacks 41 later
    → (tag shown digits : List ℕ) → ¬ (HasTag line tag shown digits)
no_close line front later is lacks none tag shown digits has =
    let (fronts, laters) = open_one line front later tag shown digits is lacks has in
    lacks_no_cut 41 shown has.back later (sym laters) none

pub no_equals : (line front later name back trimmed : List ℕ) → front ++ 40 ∷ later ≡ line → Lacks 40 front
    → name ++ 41 ∷ back ≡ later → Lacks 41 back → IsTrimAsciiStart back trimmed → ((rest : List ℕ) → 61 ∷ rest ≢ trimmed)
    → (tag shown digits : List ℕ) → ¬ (HasTag line tag shown digits)
no_equals line front later name back trimmed is lacks behind last trims none tag shown digits has =
    let (fronts, names, backs) = close_one line front later name back tag shown digits is lacks behind last has in
    none has.value (start_one back (61 ∷ has.value) trimmed (subst (λ t. IsTrimAsciiStart t (61 ∷ has.value)) (sym backs) has.mark_is) trims)

-- a line has one tag
tag_one : (line tag shown digits other name number : List ℕ) → HasTag line tag shown digits → HasTag line other name number
    → (tag ≡ other) × (shown ≡ name) × (digits ≡ number)
tag_one line tag shown digits other name number has also =
    let (fronts, names, backs) = close_one line has.front (shown ++ 41 ∷ has.back) shown has.back other name number has.line_is
    has.opens_first refl has.closes_last also in
    let marks : 61 ∷ has.value ≡ 61 ∷ also.value = start_one has.back (61 ∷ has.value) (61 ∷ also.value) has.mark_is
    (subst (λ t. IsTrimAsciiStart t (61 ∷ also.value)) (sym backs) also.mark_is) in
    let values : also.value ≡ has.value = cc in (
      end_one has.front tag other has.tag_is (subst (λ t. IsTrimAsciiEnd t other) (sym fronts) also.tag_is),
      names,
      start_one has.value digits number has.digits_are (subst (λ t. IsTrimAsciiStart t number) values also.digits_are),
    )

-- a line without a blank has no word in front of one
pub no_word : (line : List ℕ) → All (λ b. is_ascii_whitespace b ≡ false) line → (word behind : List ℕ) → ¬ (HasWord line word behind)
no_word line all word behind has = grind (arith, nat_tests, common_steps, all_not)

-- a line has one first word
pub word_one : (line word behind other more : List ℕ) → HasWord line word behind → HasWord line other more
    → (word ≡ other) × (behind ≡ more)
word_one line word behind other more has also =
    first_one (λ b. is_ascii_whitespace b ≡ false) has.blank also.blank (λ no. let clash : true ≡ false = sym has.is_blank ∙ no in cc)
    (λ no. let clash : true ≡ false = sym also.is_blank ∙ no in cc) word behind other more has.no_blank also.no_blank
    (has.line_is ∙ sym also.line_is)

digits_one : (line shown digits other number : List ℕ) → EndsInDigits line shown digits → EndsInDigits line other number
    → (shown ≡ other) × (digits ≡ number)
digits_one line shown digits other number ends also = search (rules, same_ends, end_one)

-- a line in a form is one line of ours
pub tagged_plain_one : (line plain other : List ℕ) → IsTaggedForm line plain → IsTaggedForm line other → other ≡ plain
tagged_plain_one line plain other (tag, shown, digits, has, is) (label, name, number, also, too) =
    let (tags, names, values) = tag_one line tag shown digits label name number has also in
    cc

pub blank_plain_one : (line plain other : List ℕ) → IsBlankForm line plain → IsBlankForm line other → other ≡ plain
blank_plain_one line plain other (digits, behind, has, is) (number, more, also, too) =
    let (words, rests) = word_one line digits behind number more has also in
    cc

pub sfv_plain_one : (line plain other : List ℕ) → IsSfvForm line plain → IsSfvForm line other → other ≡ plain
sfv_plain_one line plain other (shown, digits, has, is) (name, number, also, too) =
    let (names, values) = digits_one line shown digits name number has.ends also.ends in
    cc

-- a line that begins with a long number is no line of an SFV file, and one in the shape of a tagged line neither
pub no_crc : (line word behind : List ℕ) → HasWord line word behind → is_sum word ≡ true → (shown digits : List ℕ)
    → ¬ (HasCrc line shown digits)
no_crc line word behind has is shown digits crc = let clash : true ≡ false = sym is ∙ crc.no_sum word behind has in cc

-- where a line neither has a tag nor begins so, it is one of an SFV file if it ends in digits
pub crc_found : (line : List ℕ) → ((tag name number : List ℕ) → ¬ (HasTag line tag name number))
    → ((word behind : List ℕ) → HasWord line word behind → is_sum word ≡ false) → (result : Option (Bor (List ℕ) × Bor (List ℕ)))
    → MatchOption result ((shown digits : List ℕ) → ¬ (EndsInDigits line shown digits)) (λ parts. EndsInDigits line parts.0.now parts.1.now)
    → MatchOption result ((shown digits : List ℕ) → ¬ (HasCrc line shown digits)) (λ parts. HasCrc line parts.0.now parts.1.now)
crc_found line no_tag no_sum None none = λ shown digits crc. none shown digits crc.ends
crc_found line no_tag no_sum (Some parts) ends = record { ends = ends; no_tag = no_tag; no_sum = no_sum }

-- what is found of the line of ours is what a line tells in a form
pub found_in : (Form : (line plain : List ℕ) → Type 0) (kinds : List Sum) (default : Sum) (line : List ℕ)
    → ((plain other : List ℕ) → Form line plain → Form line other → other ≡ plain) → (plain : Option (Vec ℕ Global)) → FindsForm Form line plain
    → (found : Option HashLine) → FindsOf (Finds (Tells kinds default)) plain found → Finds (TellsIn Form kinds default) line found
found_in Form kinds default line one None none found is = rw is (λ kind name number (plain, form, tells). none plain form)
found_in Form kinds default line one (Some plain) form found tells =
    found_as (Tells kinds default) (TellsIn Form kinds default) plain.items line (λ kind name number it. (plain.items, form, it))
    (λ kind name number (other, also, it). subst (λ p. Tells kinds default kind name number p) (one plain.items other form also) it) found tells

module _ (kinds : List Sum) (default : Sum) (line : List ℕ) where
  -- what is found last, where a line tells nothing as one of ours or as a tagged one
  pub form_found : TellsNothing kinds default line → TellsNoneIn IsTaggedForm kinds default line → (found : Option HashLine)
      → Finds (TellsIn IsBlankForm kinds default) line found → Finds (TellsIn IsForm kinds default) line found
  form_found no_ours no_tagged =
      found_as (TellsIn IsBlankForm kinds default) (TellsIn IsForm kinds default) line line
      (λ kind name number (plain, form, tells). (plain, inr (inr form), tells)) from
    where
      from : (kind : Sum) (name : List ℕ) (number : ℕ) → TellsIn IsForm kinds default kind name number line
          → TellsIn IsBlankForm kinds default kind name number line
      from kind name number (plain, inl is, tells) = absurd (no_ours kind name number (rw (← is) at tells))
      from kind name number (plain, inr (inl form), tells) = absurd (no_tagged kind name number (plain, form, tells))
      from kind name number (plain, inr (inr form), tells) = (plain, form, tells)

  -- what is found as a line of an SFV file in a line that tells nothing in the other forms behind its first blanks
  pub so_found : (sfv : Bool) (rest : List ℕ) → sfv ≡ true → IsTrimAsciiStart line rest → TellsNoneIn IsForm kinds default rest
      → (found : Option HashLine) → Finds (TellsIn IsSfvForm kinds default) rest found → Finds (TellsSo sfv kinds default) line found
  so_found sfv rest takes trims none =
      found_as (TellsIn IsSfvForm kinds default) (TellsSo sfv kinds default) rest line
      (λ kind name number tells. (rest, trims, inr (takes, none, tells))) from
    where
      from : (kind : Sum) (name : List ℕ) (number : ℕ) → TellsSo sfv kinds default kind name number line
          → TellsIn IsSfvForm kinds default kind name number rest
      from kind name number (behind, also, inl tells) =
          absurd (none kind name number (rw (start_one line behind rest also trims) at tells))
      from kind name number (behind, also, inr (taken, nothing, tells)) = rw (start_one line behind rest also trims) at tells
