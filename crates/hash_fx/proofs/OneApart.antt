-- Two lists that differ at exactly one place, by recursion.
use Rattle.hash_fx.proofs.Common.{◌≡◌, ℕ, List, [], ◌∷◌, ◌++◌, length, take, drop, arith, refl, sym, ap, ◌∙◌, ap₂}
use Rattle.std.proofs.Common.{◌≢◌, ◌⊎◌, zero, suc, slice_index, inl, inr, ext_get_or, take_at, drop_at}
use Rattle.hash_laws.specs.DifferWithin.{DifferAtOnePlace}

abbrev pub OneApart : List ℕ → List ℕ → Type 0
OneApart [] [] = ⊥
OneApart [] (b ∷ y) = ⊥
OneApart (a ∷ x) [] = ⊥
OneApart (a ∷ x) (b ∷ y) = ((a ≢ b) × (x ≡ y)) ⊎ ((a ≡ b) × OneApart x y)

-- ---- the same by place

after_first : (a b : ℕ) (x y : List ℕ) → x ≡ y → (j : ℕ) → j ≢ 0 → slice_index (a ∷ x) j ≡ slice_index (b ∷ y) j
after_first a b x y same zero ne = absurd (ne refl)
after_first a b x y same (suc j) ne = ap (λ t. slice_index t j) same

elsewhere : (a b : ℕ) (x y : List ℕ) (i : ℕ) → a ≡ b → ((j : ℕ) → j ≢ i → slice_index x j ≡ slice_index y j)
    → (j : ℕ) → j ≢ suc i → slice_index (a ∷ x) j ≡ slice_index (b ∷ y) j
elsewhere a b x y i same rest zero ne = same
elsewhere a b x y i same rest (suc j) ne = rest j (λ e. ne (ap suc e))

pub DifferAtOnePlace-from_one : (x y : List ℕ) → OneApart x y → DifferAtOnePlace x y
DifferAtOnePlace-from_one [] [] one = absurd one
DifferAtOnePlace-from_one [] (b ∷ y) one = absurd one
DifferAtOnePlace-from_one (a ∷ x) [] one = absurd one
DifferAtOnePlace-from_one (a ∷ x) (b ∷ y) one = elim one [
  | inl here ↦ record { same_length = omega (arith, ap length here.1); place = (0, here.0, after_first a b x y here.1) }
  | inr later ↦
      let rest = DifferAtOnePlace-from_one x y later.1 in
      record {
        same_length = omega (arith, rest.same_length);
        place = (suc rest.place.0, rest.place.1, elsewhere a b x y rest.place.0 later.0 rest.place.2);
      }
]

from_place : (x y : List ℕ) (i : ℕ) → length x ≡ length y → slice_index x i ≢ slice_index y i
    → ((j : ℕ) → j ≢ i → slice_index x j ≡ slice_index y j) → OneApart x y
from_place [] [] i len ne same = ne refl
from_place [] (b ∷ y) i len ne same = absurd (omega (arith, len))
from_place (a ∷ x) [] i len ne same = absurd (omega (arith, len))
from_place (a ∷ x) (b ∷ y) zero len ne same =
    inl (ne, ext_get_or 0 x y (omega (arith, len)) (λ j _. same (suc j) (λ (e : suc j ≡ 0). omega (arith, e))))
from_place (a ∷ x) (b ∷ y) (suc i) len ne same =
    inr (
      same 0 (λ (e : 0 ≡ suc i). omega (arith, e)),
      from_place x y i (omega (arith, len)) ne
          (λ j other. same (suc j) (λ (e : suc j ≡ suc i). other (omega (arith, e)))),
    )

pub one_from_DifferAtOnePlace : (x y : List ℕ) → DifferAtOnePlace x y → OneApart x y
one_from_DifferAtOnePlace x y d = from_place x y d.place.0 d.same_length d.place.1 d.place.2

-- ---- lists in two parts

pub append_same : (p q x y : List ℕ) → length p ≡ length q → p ++ x ≡ q ++ y → (p ≡ q) × (x ≡ y)
append_same p q x y len same = (
  sym (take_at p x (length p) refl) ∙ ap (take (length p)) same ∙ take_at q y (length p) (sym len),
  sym (drop_at p x (length p) refl) ∙ ap (drop (length p)) same ∙ drop_at q y (length p) (sym len),
)

-- no list is apart from itself
pub OneApart-itself : (x : List ℕ) → OneApart x x → ⊥
OneApart-itself [] one = one
OneApart-itself (a ∷ x) one = elim one [
  | inl here ↦ here.0 refl
  | inr later ↦ OneApart-itself x later.1
]

-- apart in the first part
pub OneApart-append_left : (p q x y : List ℕ) → OneApart p q → x ≡ y → OneApart (p ++ x) (q ++ y)
OneApart-append_left [] [] x y one same = absurd one
OneApart-append_left [] (b ∷ q) x y one same = absurd one
OneApart-append_left (a ∷ p) [] x y one same = absurd one
OneApart-append_left (a ∷ p) (b ∷ q) x y one same = elim one [
  | inl here ↦ inl (here.0, ap₂ (λ s t. s ++ t) here.1 same)
  | inr later ↦ inr (later.0, OneApart-append_left p q x y later.1 same)
]

-- apart in the second
pub OneApart-append_right : (p x y : List ℕ) → OneApart x y → OneApart (p ++ x) (p ++ y)
OneApart-append_right [] x y one = one
OneApart-append_right (a ∷ p) x y one = inr (refl, OneApart-append_right p x y one)

pub OneApart-split : (p q x y : List ℕ) → length p ≡ length q → OneApart (p ++ x) (q ++ y)
    → (OneApart p q × (x ≡ y)) ⊎ ((p ≡ q) × OneApart x y)
OneApart-split [] [] x y len one = inr (refl, one)
OneApart-split [] (b ∷ q) x y len one = absurd (omega (arith, len))
OneApart-split (a ∷ p) [] x y len one = absurd (omega (arith, len))
OneApart-split (a ∷ p) (b ∷ q) x y len one = elim one [
  | inl here ↦
      let parts = append_same p q x y (omega (arith, len)) here.1 in
      inl (inl (here.0, parts.0), parts.1)
  | inr later ↦ elim (OneApart-split p q x y (omega (arith, len)) later.1) [
    | inl front ↦ inl (inr (later.0, front.0), front.1)
    | inr back ↦ inr (ap₂ (λ c t. c ∷ t) later.0 back.0, back.1)
  ]
]
