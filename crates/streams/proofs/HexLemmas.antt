-- Digits one by one.
use Rattle.std.proofs.Common.{◌≡◌, ◌⊎◌, inl, inr, ℕ, ◌+◌, ◌-◌, ◌*◌, ◌/◌, ◌%◌, ◌^◌, ◌<◌, ◌≤◌, suc, zero, List, [], ◌∷◌, ◌++◌, length, drop, set, Option, Some, None, refl, sym, ap, ◌∙◌, lit<, append_assoc, append-nil, add-one, mul_assoc, arith, length-append}
use Rattle.std.proofs.Math.Nat.{pow-le-pow_right}
use Rattle.std.proofs.lemmas.Bool.Decides.{nat_tests}
use Rattle.std.proofs.lemmas.List.{drop-set, drop_all}
use Rattle.streams.specs.Hex.{digit, digit_value, hex, hex_value, value_behind}

-- a digit put in front of those that stand at the end
pub put_digit : (left rest at : ℕ) (places text : List ℕ) → at < length places
    → hex (suc left) rest ++ drop (at + 1) places ≡ text
    → hex left (rest / 16) ++ drop at (set places at (digit (rest % 16))) ≡ text
put_digit left rest at places text within is =
    ap (λ t. hex left (rest / 16) ++ t) (drop-set places at (digit (rest % 16)) within)
    ∙ sym (append_assoc (hex left (rest / 16)) (digit (rest % 16) ∷ []) (drop (at + 1) places)) ∙ is

pub put_none : (digits number : ℕ) (places : List ℕ) → digits ≤ 32 → length places ≡ 32
    → hex (32 - (32 - digits)) number ++ drop 32 places ≡ hex digits number
put_none digits number places few whole =
    let same : 32 - (32 - digits) ≡ digits = omega arith in
    let all : length places ≤ 32 = omega arith in
    ap (λ t. hex (32 - (32 - digits)) number ++ t) (drop_all 32 places all) ∙ append-nil (hex (32 - (32 - digits)) number)
    ∙ ap (λ n. hex n number) same

pow_step : (place : ℕ) → 16 ^ (place + 1) ≡ 16 ^ place * 16
pow_step place = rw add-one (omega arith)

-- a digit more, of at most 32
pub next_fits : (number place value : ℕ) → number < 16 ^ place → place < 32 → value < 16 → number * 16 + value < 2 ^ 128
next_fits number place value small early low =
    let next : place + 1 ≤ 32 = omega arith in
    let most : 16 ^ (place + 1) ≤ 16 ^ 32 = pow-le-pow_right (lit< tt) next in
    let all : 16 ^ 32 ≡ 2 ^ 128 = refl in
    let step : 16 ^ (place + 1) ≡ 16 ^ place * 16 = pow_step place in
    omega arith

-- so many digits
pub length-hex : (digits number : ℕ) → length (hex digits number) ≡ digits
length-hex zero number = refl
length-hex (suc digits) number =
    length-append (hex digits (number / 16)) (digit (number % 16) ∷ []) ∙ ap (λ n. n + 1) (length-hex digits (number / 16)) ∙ add-one digits

digit_value-digit : (value : ℕ) → value < 16 → digit_value (digit value) ≡ Some value
digit_value-digit value low = grind (arith, nat_tests)

pub cases_Option : (found : Option ℕ) → (found ≡ None) ⊎ ((v : ℕ) × (found ≡ Some v))
cases_Option None = inl refl
cases_Option (Some v) = inr (v, refl)

-- a digit behind others
value-push : (front : List ℕ) (before number byte value : ℕ) → value_behind before front ≡ Some number → digit_value byte ≡ Some value
    → value_behind before (front ++ byte ∷ []) ≡ Some (number * 16 + value)
value-push [] before number byte value is one = grind (arith, one)
value-push (first ∷ front) before number byte value is one =
    let later : (b : ℕ) → value_behind b front ≡ Some number → value_behind b (front ++ byte ∷ []) ≡ Some (number * 16 + value) =
    λ b here. value-push front b number byte value here one in
    elim (cases_Option (digit_value first)) [
      | inl none ↦ grind (arith, is, none)
      | inr some ↦ grind (arith, is, some.1, later (before * 16 + some.0))
    ]

-- the number of its digits
value-hex : (digits number before : ℕ) → number < 16 ^ digits → value_behind before (hex digits number)
    ≡ Some (before * 16 ^ digits + number)
value-hex zero number before small =
    let none : number < 1 = small in let same : before ≡ before * 1 + number = omega arith in ap Some same
value-hex (suc digits) number before small =
    let step : 16 ^ suc digits ≡ 16 ^ digits * 16 = ap (λ n. 16 ^ n) (sym (add-one digits)) ∙ pow_step digits in
    let fits : number / 16 < 16 ^ digits = omega arith in
    let low : number % 16 < 16 = omega arith in
    let all : before * 16 ^ suc digits ≡ before * 16 ^ digits * 16 = ap (λ t. before * t) step ∙ sym (mul_assoc before (16 ^ digits) 16) in
    let same : (before * 16 ^ digits + number / 16) * 16 + number % 16 ≡ before * 16 ^ suc digits + number = omega arith in
    value-push (hex digits (number / 16)) before (before * 16 ^ digits + number / 16) (digit (number % 16)) (number % 16)
    (value-hex digits (number / 16) before fits) (digit_value-digit (number % 16) low) ∙ ap Some same

pub hex_value-hex : (digits number : ℕ) → number < 16 ^ digits → hex_value (hex digits number) ≡ Some number
hex_value-hex digits number small =
    let same : 0 * 16 ^ digits + number ≡ number = omega arith in value-hex digits number 0 small ∙ ap Some same
