-- Differences add up, and one of them is one place.
use Rattle.hash_theorems.proofs.FxCommon.{◌≡◌, ◌≢◌, ℕ, ◌+◌, ◌<◌, ◌==◌, if◌then◌else◌, List, [], ◌∷◌, ◌++◌, length, map, take, get_or, zero-add, add-zero, arith, refl, sym, ap, ◌∙◌, inl, inr, ap₂, cases_eq, eq-eqb, ne_eqb, length-map, length-take-le, map_more, differences, common_steps, nat_tests, rules}
use Rattle.hash_fx.proofs.OneApart.{OneApart}

-- one place
abbrev place : ℕ → ℕ → ℕ
place a b = if a == b then 0 else 1

place-same : (a b : ℕ) → a ≡ b → place a b ≡ 0
place-same a b same = rw (eq-eqb a b same) refl

place-differ : (a b : ℕ) → a ≢ b → place a b ≡ 1
place-differ a b differ = rw (ne_eqb a b differ) refl

pub differences-append : (p q x y : List ℕ) → length p ≡ length q → differences (p ++ x) (q ++ y) ≡ differences p q + differences x y
differences-append [] [] x y len = sym (zero-add (differences x y))
differences-append [] (b ∷ q) x y len = absurd (omega (arith, len))
differences-append (a ∷ p) [] x y len = absurd (omega (arith, len))
differences-append (a ∷ p) (b ∷ q) x y len = grind (arith, nat_tests, common_steps, differences-append p q x y (omega (arith, len)))

pub none-same : (x y : List ℕ) → length x ≡ length y → differences x y ≡ 0 → x ≡ y
none-same [] [] len none = refl
none-same [] (b ∷ y) len none = absurd (omega (arith, len))
none-same (a ∷ x) [] len none = absurd (omega (arith, len))
none-same (a ∷ x) (b ∷ y) len none = elim (cases_eq a b) [
  | inl same ↦ ap₂ (λ c t. c ∷ t) same (none-same x y (omega (arith, len)) (omega (arith, none, place-same a b same)))
  | inr differ ↦ absurd (omega (arith, none, place-differ a b differ))
]

pub same-none : (x : List ℕ) → differences x x ≡ 0
same-none [] = refl
same-none (a ∷ x) = omega (arith, place-same a a refl, same-none x)

pub one-OneApart : (x y : List ℕ) → length x ≡ length y → differences x y ≡ 1 → OneApart x y
one-OneApart [] [] len one = absurd (omega (arith, one))
one-OneApart [] (b ∷ y) len one = absurd (omega (arith, len))
one-OneApart (a ∷ x) [] len one = absurd (omega (arith, len))
one-OneApart (a ∷ x) (b ∷ y) len one = elim (cases_eq a b) [
  | inl same ↦ inr (same, one-OneApart x y (omega (arith, len)) (omega (arith, one, place-same a b same)))
  | inr differ ↦ inl (differ, none-same x y (omega (arith, len)) (omega (arith, one, place-differ a b differ)))
]

pub OneApart-one : (x y : List ℕ) → OneApart x y → differences x y ≡ 1
OneApart-one [] [] one = absurd one
OneApart-one [] (b ∷ y) one = absurd one
OneApart-one (a ∷ x) [] one = absurd one
OneApart-one (a ∷ x) (b ∷ y) one = elim one [
  | inl here ↦ omega (arith, place-differ a b here.0, ap (differences x) (sym here.1), same-none x)
  | inr later ↦ omega (arith, place-same a b later.0, OneApart-one x y later.1)
]

-- of the parts of two lists, the first parts being as long
pub differences-parts : {X : Type 0} (f : X → ℕ) (p q : List X) (x y all_x all_y : List ℕ) → length p ≡ length q
    → map f p ++ x ≡ all_x → map f q ++ y ≡ all_y → differences (map f p) (map f q) + differences x y ≡ differences all_x all_y
differences-parts f p q x y all_x all_y len parts_x parts_y = search (rules, differences-append, length-map)

-- one place more, of lists that are made from others: a and b stand there
module _ {X : Type 0} (f : X → ℕ) (x y : List X) (i : ℕ) (a b : X) (a_is : a ≡ get_or x i a) (b_is : b ≡ get_or y i b)
    (in_x : i < length x) (in_y : i < length y) where
  differences-more : differences (map f (take (i + 1) x)) (map f (take (i + 1) y))
      ≡ differences (map f (take i x)) (map f (take i y)) + place (f a) (f b)
  differences-more =
      let same : length (map f (take i x)) ≡ length (map f (take i y)) =
      length-map (take i x) f ∙ length-take-le i x (omega (arith, in_x))
      ∙ sym (length-map (take i y) f ∙ length-take-le i y (omega (arith, in_y))) in
      grind (arith, nat_tests, common_steps, map_more, differences-append, add-zero)

  pub more-same : (n : ℕ) → n ≡ differences (map f (take i x)) (map f (take i y)) → f a ≡ f b
      → n ≡ differences (map f (take (i + 1) x)) (map f (take (i + 1) y))
  more-same n so_far same = omega (arith, differences-more, place-same _ _ same)

  pub more-differ : (n : ℕ) → n ≡ differences (map f (take i x)) (map f (take i y)) → f a ≢ f b
      → n + 1 ≡ differences (map f (take (i + 1) x)) (map f (take (i + 1) y))
  more-differ n so_far differ = omega (arith, differences-more, place-differ _ _ differ)
