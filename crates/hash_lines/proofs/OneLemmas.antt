-- A line shows one name and number, and so tells one thing.
use Rattle.hash_lines.proofs.Common.{◌≡◌, ◌≢◌, ◌⊎◌, inl, inr, ℕ, ◌+◌, ◌*◌, ◌<◌, Bool, true, false, List, [], ◌∷◌, ◌++◌, Some, None, length, get_or, codes, refl, ap, sym, ◌∙◌, subst, arith, lit<, AreTags, IsTag, Tells, digits_of, name_shown, ShowsTagged, ShowsUntagged, escape, digit_value, hex_value, value_behind, Sum, nat_tests, All-from_recursion, AllByRecursion, name_in, width_in, cases_Option}
use Rattle.hash_lines.specs.declared.line.Width.{Width}
use Rattle.hash_lines.specs.declared.line.Width.TheVariants as width
use Rattle.hash_lines.proofs.EscapeLemmas.{first_rest, first_same, nothing_first}
use Rattle.hash_lines.proofs.LineLemmas.{first_one, front_digits, inner_is, last_is, same_begins, tagged_shown, untagged_shown}
use Rattle.hash_lines.proofs.ShownLemmas.{ShowsBody, ShowsLine, line_shows}

-- texts that are escaped alike are the same
escape_one : (name more : List ℕ) → escape name ≡ escape more → name ≡ more
escape_one [] [] same = refl
escape_one [] (byte ∷ more) same = absurd (nothing_first byte (escape more) (sym same))
escape_one (byte ∷ name) [] same = absurd (nothing_first byte (escape name) same)
escape_one (byte ∷ name) (other ∷ more) same =
    let first = first_same byte other (escape name) (escape more) same in
    let rest = escape_one name more (first_rest byte other (escape name) (escape more) same) in
    ap (λ b. b ∷ name) first ∙ ap (λ t. other ∷ t) rest

shown_one : (escapes : Bool) (name more : List ℕ) → name_shown escapes name ≡ name_shown escapes more → name ≡ more
shown_one true name more same = escape_one name more same
shown_one false name more same = same

-- two texts without a space that a space stands behind
before_space : (xs ys us vs : List ℕ) → AllByRecursion (λ x. x ≢ 32) xs → AllByRecursion (λ x. x ≢ 32) ys
    → xs ++ (32 ∷ us) ≡ ys ++ (32 ∷ vs)
    → (xs ≡ ys) × (us ≡ vs)
before_space xs ys us vs none other same =
    first_one (λ b. b ≢ 32) 32 32 (λ no. no refl) (λ no. no refl) xs us ys vs (All-from_recursion _ xs none) (All-from_recursion _ ys other) same

-- digits have no space
digits_no_space : (digits : List ℕ) (before number : ℕ) → value_behind before digits ≡ Some number → AllByRecursion (λ x. x ≢ 32) digits
digits_no_space [] before number is = tt
digits_no_space (first ∷ more) before number is =
    let later : (b : ℕ) → value_behind b more ≡ Some number → AllByRecursion (λ x. x ≢ 32) more = λ b here. digits_no_space more b number here in
    elim (cases_Option (digit_value first)) [
      | inl none ↦ absurd (grind (arith, is, none))
      | inr some ↦ (grind (arith, nat_tests, some.1), later (before * 16 + some.0) (grind (arith, is, some.1)))
    ]

tag_no_space : (tag : List ℕ) → IsTag tag → AllByRecursion (λ x. x ≢ 32) tag
tag_no_space [] is = tt
tag_no_space (first ∷ more) is = (is.0.0, tag_no_space more is.1)

-- the number of digits that are the same
same_digits : (count n m : ℕ) (xs ys : List ℕ) → hex_value xs ≡ Some n → hex_value ys ≡ Some m → xs ≡ ys → n ≡ m
same_digits count n m xs ys one other same = let both : Some n ≡ Some m = sym one ∙ ap hex_value same ∙ other in cc

-- two tagged lines of one tag
tagged_one : (escapes : Bool) (tag : List ℕ) (count n m : ℕ) (name more body : List ℕ)
    → ShowsTagged tag count (name_shown escapes name) n body
    → ShowsTagged tag count (name_shown escapes more) m body → (name ≡ more) × (n ≡ m)
tagged_one escapes tag count n m name more body (xs, shows, is) (ys, also, too) =
    let inner = inner_is tag (codes " (") (name_shown escapes name ++ (codes ") = " ++ xs))
    (name_shown escapes more ++ (codes ") = " ++ ys)) body
    is too in (
      shown_one escapes name more
          (tagged_shown tag count n m (name_shown escapes name) (name_shown escapes more) body (xs, shows, is) (ys, also, too)),
      same_digits count n m xs ys shows.1 also.1
          (last_is (name_shown escapes name) (codes ") = ") xs (name_shown escapes more) (codes ") = ") ys
          (name_shown escapes more ++ (codes ") = " ++ ys)) inner refl (shows.0 ∙ sym also.0)),
    )

-- two untagged lines
untagged_one : (escapes : Bool) (count n m : ℕ) (name more body : List ℕ) → ShowsUntagged count (name_shown escapes name) n body
    → ShowsUntagged count (name_shown escapes more) m body → (name ≡ more) × (n ≡ m)
untagged_one escapes count n m name more body one other =
    let (xs, us, xs_are, xs_tell, xs_is, xs_rest) = front_digits count n (name_shown escapes name) body one in
    let (ys, vs, ys_are, ys_tell, ys_is, ys_rest) = front_digits count m (name_shown escapes more) body other in (
      shown_one escapes name more (untagged_shown count n m (name_shown escapes name) (name_shown escapes more) body one other),
      same_digits count n m xs ys xs_tell ys_tell (same_begins xs us ys vs (xs_is ∙ sym ys_is) (xs_are ∙ sym ys_are)).0,
    )

-- no line is tagged and untagged
never_both : (tag : List ℕ) (count width n m : ℕ) (shown more body : List ℕ) → IsTag tag → ShowsTagged tag count shown n body
    → ShowsUntagged width more m body → ⊥
never_both tag count width n m shown more body is_tag (xs, shows, is) untagged =
    at (front_digits width m more body untagged)
  where
    inner : List ℕ
    inner = shown ++ (codes ") = " ++ xs)

    at : (digits : List ℕ) × (rest : List ℕ) × (length digits ≡ width) × (hex_value digits ≡ Some m) × (digits ++ rest ≡ body)
        × ((rest ≡ 32 ∷ 32 ∷ more) ⊎ (rest ≡ 32 ∷ 42 ∷ more)) → ⊥
    at (digits, rest, are, tell, also, inl spaces) =
        let same = before_space tag digits (40 ∷ inner) (32 ∷ more) (tag_no_space tag is_tag) (digits_no_space digits 0 m tell)
        (is ∙ sym also ∙ ap (λ r. digits ++ r) spaces) in
        let clash : ◌≡◌ {A = ℕ} 40 32 = ap (λ l. get_or l 0 0) same.1 in omega arith
    at (digits, rest, are, tell, also, inr spaces) =
        let same = before_space tag digits (40 ∷ inner) (42 ∷ more) (tag_no_space tag is_tag) (digits_no_space digits 0 m tell)
        (is ∙ sym also ∙ ap (λ r. digits ++ r) spaces) in
        let clash : ◌≡◌ {A = ℕ} 40 42 = ap (λ l. get_or l 0 0) same.1 in omega arith

-- two tagged lines
tags_one : (tag other : List ℕ) (count width n m : ℕ) (shown more body : List ℕ) → IsTag tag → IsTag other
    → ShowsTagged tag count shown n body
    → ShowsTagged other width more m body → tag ≡ other
tags_one tag other count width n m shown more body is_tag also_tag (xs, shows, is) (ys, also, too) =
    (before_space tag other (40 ∷ shown ++ (codes ") = " ++ xs)) (40 ∷ more ++ (codes ") = " ++ ys)) (tag_no_space tag is_tag)
    (tag_no_space other also_tag) (is ∙ sym too)).0

-- a line without its mark
body_one : (kinds : List Sum) (default : Sum) → AreTags kinds default
    → (escapes : Bool) (kind other : Sum) (name more : List ℕ) (n m : ℕ)
    (body : List ℕ) → ShowsBody kinds default escapes kind name n body → ShowsBody kinds default escapes other more m body
    → (kind ≡ other) × (name ≡ more) × (n ≡ m)
body_one kinds default are escapes kind other name more n m body (inl (has, tells)) (inl (also, too)) =
    let same = are.apart kind other has also
    (tags_one (name_in kind) (name_in other) (digits_of (width_in kind)) (digits_of (width_in other)) n m (name_shown escapes name)
    (name_shown escapes more) body (are.each kind has) (are.each other also) tells too) in
    let rest = tagged_one escapes (name_in kind) (digits_of (width_in kind)) n m name more body tells
    (subst (λ k. ShowsTagged (name_in k) (digits_of (width_in k)) (name_shown escapes more) m body) (sym same) too) in (same, rest.0, rest.1)
body_one kinds default are escapes kind other name more n m body (inl (has, tells)) (inr (is, too)) =
    absurd (never_both (name_in kind) (digits_of (width_in kind)) (digits_of (width_in other)) n m (name_shown escapes name)
    (name_shown escapes more) body
    (are.each kind has) tells too)
body_one kinds default are escapes kind other name more n m body (inr (is, tells)) (inl (also, too)) =
    absurd (never_both (name_in other) (digits_of (width_in other)) (digits_of (width_in kind)) m n (name_shown escapes more)
    (name_shown escapes name) body
    (are.each other also) too tells)
body_one kinds default are escapes kind other name more n m body (inr (is, tells)) (inr (also, too)) =
    let same = is ∙ sym also in
    let rest = untagged_one escapes (digits_of (width_in kind)) n m name more body tells
    (subst (λ k. ShowsUntagged (digits_of (width_in k)) (name_shown escapes more) m body) (sym same) too) in (same, rest.0, rest.1)

some_digits : (width : Width) → 0 < digits_of width
some_digits width.Eight = lit< tt
some_digits width.Sixteen = lit< tt
some_digits width.ThirtyTwo = lit< tt

-- a line without escapes begins with no backslash
tag_first : (tag more rest : List ℕ) → IsTag tag → tag ++ (32 ∷ more) ≡ 92 ∷ rest → ⊥
tag_first [] more rest is_tag is = let clash : ◌≡◌ {A = ℕ} 32 92 = ap (λ l. get_or l 0 0) is in omega arith
tag_first (first ∷ tag) more rest is_tag is = let mark : first ≡ 92 = ap (λ l. get_or l 0 0) is in is_tag.0.1 mark

digits_first : (digits more rest : List ℕ) (n : ℕ) → 0 < length digits → hex_value digits ≡ Some n → digits ++ more ≡ 92 ∷ rest → ⊥
digits_first [] more rest n some tell is = absurd (omega arith)
digits_first (first ∷ digits) more rest n some tell is =
    let mark : first ≡ 92 = ap (λ l. get_or l 0 0) is in
    let none : None ≡ Some n = sym (ap (λ b. hex_value (b ∷ digits)) mark) ∙ tell in cc

no_backslash : (kinds : List Sum) (default : Sum) → AreTags kinds default → (kind : Sum) (name : List ℕ) (n : ℕ) (rest : List ℕ)
    → ShowsBody kinds default false kind name n (92 ∷ rest) → ⊥
no_backslash kinds default are kind name n rest (inl (has, (digits, shows, is))) =
    tag_first (name_in kind) (40 ∷ name ++ (codes ") = " ++ digits)) rest (are.each kind has) is
no_backslash kinds default are kind name n rest (inr (default_is, untagged)) =
    let (digits, more, long, tell, is, behind) = front_digits (digits_of (width_in kind)) n name (92 ∷ rest) untagged in
    digits_first digits more rest n (omega (arith, long, some_digits (width_in kind))) tell is

-- a line shows one name and number
pub line_shows_one : (kinds : List Sum) (default : Sum) → AreTags kinds default → (kind other : Sum) (name more : List ℕ) (n m : ℕ)
    (line : List ℕ) → ShowsLine kinds default kind name n line → ShowsLine kinds default other more m line
    → (kind ≡ other) × (name ≡ more) × (n ≡ m)
line_shows_one kinds default are kind other name more n m line (inl tells) (inl too) =
    body_one kinds default are false kind other name more n m line tells too
line_shows_one kinds default are kind other name more n m line (inl tells) (inr (body, is, too)) =
    absurd (no_backslash kinds default are kind name n body
    (subst (λ l. ShowsBody kinds default false kind name n l) (sym is) tells))
line_shows_one kinds default are kind other name more n m line (inr (body, is, tells)) (inl too) =
    absurd (no_backslash kinds default are other more m body
    (subst (λ l. ShowsBody kinds default false other more m l) (sym is) too))
line_shows_one kinds default are kind other name more n m line (inr (body, is, tells)) (inr (body', is', too)) =
    let same : body' ≡ body = let both : 92 ∷ body' ≡ 92 ∷ body = is' ∙ sym is in cc in
    body_one kinds default are true kind other name more n m body tells
    (subst (λ b. ShowsBody kinds default true other more m b) same too)

-- and so tells one thing
pub line_one : (kinds : List Sum) (default : Sum) → AreTags kinds default → (kind other : Sum) (name more : List ℕ) (n m : ℕ)
    (line : List ℕ) → Tells kinds default kind name n line → Tells kinds default other more m line
    → (kind ≡ other) × (name ≡ more) × (n ≡ m)
line_one kinds default are kind other name more n m line tells too =
    line_shows_one kinds default are kind other name more n m line (line_shows kinds default kind name n line tells)
    (line_shows kinds default other more m line too)
