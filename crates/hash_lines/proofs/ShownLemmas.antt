-- Lines that show a name, of some bytes or none. Those that tell a hash show one of some bytes.
use Rattle.hash_lines.proofs.Common.{◌≡◌, ◌≢◌, ◌⊎◌, inl, inr, ℕ, Bool, true, false, List, [], ◌∷◌, length, Contains, refl, sym, subst, arith, IsShown, Tells, TellsBody, digits_of, name_shown, ShowsTagged, ShowsUntagged, escape, Sum, name_in, width_in}
use Rattle.hash_lines.proofs.EscapeLemmas.{nothing_first}

-- no name is shown in no bytes
pub none_shown : (escapes : Bool) (name shown : List ℕ) → length shown ≡ 0 → ¬ (IsShown escapes name shown)
none_shown escapes [] shown empty (named, is) = named refl
none_shown true (byte ∷ more) [] empty (named, is) = nothing_first byte (escape more) is
none_shown false (byte ∷ more) [] empty (named, is) = let clash : byte ∷ more ≡ [] = is in cc
none_shown escapes (byte ∷ more) (first ∷ shown) empty (named, is) = absurd (omega arith)

-- a line without its mark
abbrev pub ShowsBody : List Sum → (default : Sum) → Bool → Sum → (name : List ℕ) (number : ℕ) → List ℕ → Type 0
ShowsBody kinds default escapes kind name number body =
    (Contains kinds kind × ShowsTagged (name_in kind) (digits_of (width_in kind)) (name_shown escapes name) number body)
    ⊎ ((kind ≡ default) × ShowsUntagged (digits_of (width_in kind)) (name_shown escapes name) number body)

-- a line
abbrev pub ShowsLine : List Sum → (default : Sum) → Sum → (name : List ℕ) (number : ℕ) → List ℕ → Type 0
ShowsLine kinds default kind name number line = ShowsBody kinds default false kind name number line
    ⊎ ((body : List ℕ) × (92 ∷ body ≡ line) × ShowsBody kinds default true kind name number body)

body_shows : (kinds : List Sum) (default : Sum) (escapes : Bool) (kind : Sum) (name : List ℕ) (number : ℕ) (body : List ℕ)
    → TellsBody kinds default escapes kind name number body → ShowsBody kinds default escapes kind name number body
body_shows kinds default escapes kind name number body (inl (has, (shown, is, tells))) =
    inl (has, subst (λ s. ShowsTagged (name_in kind) (digits_of (width_in kind)) s number body) (sym is.1) tells)
body_shows kinds default escapes kind name number body (inr (default_is, (shown, is, tells))) =
    inr (default_is, subst (λ s. ShowsUntagged (digits_of (width_in kind)) s number body) (sym is.1) tells)

-- a line that tells a hash of a file shows its name
pub line_shows : (kinds : List Sum) (default kind : Sum) (name : List ℕ) (number : ℕ) (line : List ℕ)
    → Tells kinds default kind name number line → ShowsLine kinds default kind name number line
line_shows kinds default kind name number line (inl tells) = inl (body_shows kinds default false kind name number line tells)
line_shows kinds default kind name number line (inr (body, is, tells)) =
    inr (body, is, body_shows kinds default true kind name number body tells)

body_has_name : (kinds : List Sum) (default : Sum) (escapes : Bool) (kind : Sum) (name : List ℕ) (number : ℕ) (body : List ℕ)
    → TellsBody kinds default escapes kind name number body → name ≢ []
body_has_name kinds default escapes kind name number body (inl (has, (shown, is, tells))) = is.0
body_has_name kinds default escapes kind name number body (inr (default_is, (shown, is, tells))) = is.0

-- and the name has some byte
pub has_name : (kinds : List Sum) (default kind : Sum) (name : List ℕ) (number : ℕ) (line : List ℕ)
    → Tells kinds default kind name number line → name ≢ []
has_name kinds default kind name number line (inl tells) = body_has_name kinds default false kind name number line tells
has_name kinds default kind name number line (inr (body, is, tells)) = body_has_name kinds default true kind name number body tells

body_tells : (kinds : List Sum) (default : Sum) (escapes : Bool) (kind : Sum) (name : List ℕ) (number : ℕ) (body : List ℕ)
    → name ≢ [] → ShowsBody kinds default escapes kind name number body → TellsBody kinds default escapes kind name number body
body_tells kinds default escapes kind name number body named (inl (has, shows)) =
    inl (has, (name_shown escapes name, (named, refl), shows))
body_tells kinds default escapes kind name number body named (inr (is, shows)) =
    inr (is, (name_shown escapes name, (named, refl), shows))

-- a line that shows a name of some bytes tells its hash
pub line_tells : (kinds : List Sum) (default kind : Sum) (name : List ℕ) (number : ℕ) (line : List ℕ) → name ≢ []
    → ShowsLine kinds default kind name number line → Tells kinds default kind name number line
line_tells kinds default kind name number line named (inl shows) =
    inl (body_tells kinds default false kind name number line named shows)
line_tells kinds default kind name number line named (inr (body, is, shows)) =
    inr (body, is, body_tells kinds default true kind name number body named shows)
