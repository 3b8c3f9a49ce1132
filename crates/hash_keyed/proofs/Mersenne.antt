-- 2 ^ 61 - 1 is prime: by the test of Lucas and Lehmer, computed.
use Rattle.hash_keyed.proofs.Common.{◌≡◌, ◌≢◌, ℕ, ◌+◌, ◌-◌, ◌*◌, ◌%◌, ◌<◌, ◌≤◌, ◌⊎◌, ⊎_elim, mul-add, refl, sym, ap, ◌∙◌, arith, lit<, cases_lt, eq-or-lt_of_le}
use Rattle.hash_keyed.proofs.Powers.{re, im, squares}
use Rattle.hash_keyed.proofs.LucasLehmer.{square_of_divisor}
use Rattle.hash_keyed.proofs.Euclid.{no_divisor, euclid}

abbrev mersenne : ℕ
mersenne = 0x1fff_ffff_ffff_ffff

minus_one : squares mersenne 60 (re 1 % mersenne) (im 1 % mersenne) ≡ (mersenne - 1, 0)
unfolding squares re
minus_one = refl

one : squares mersenne 61 (re 1 % mersenne) (im 1 % mersenne) ≡ (1, 0)
unfolding squares re
one = refl

not_two : (d : ℕ) → 2 ≡ d → mersenne % d ≢ 0
not_two d two divides = let odd : mersenne % 2 ≡ mersenne % d = ap (λ x. mersenne % x) two in omega arith

above_two : (d : ℕ) → 2 < d → d * d ≤ mersenne → mersenne % d ≢ 0
above_two d more low divides =
    let square = square_of_divisor mersenne 60 minus_one one d (lit< tt) more divides in omega arith

up_to_root : (d : ℕ) → 1 < d → d * d ≤ mersenne → mersenne % d ≢ 0
up_to_root d more low divides =
    ⊎_elim (λ two. not_two d two divides) (λ above. above_two d above low divides) (eq-or-lt_of_le more)

pub is_prime : (d : ℕ) → 1 < d → d < 0x1fff_ffff_ffff_ffff → 0x1fff_ffff_ffff_ffff % d ≢ 0
is_prime = no_divisor mersenne up_to_root

pub no_zero_product : (a b : ℕ) → a * b % 0x1fff_ffff_ffff_ffff ≡ 0 → (a % 0x1fff_ffff_ffff_ffff ≡ 0) ⊎ (b % 0x1fff_ffff_ffff_ffff ≡ 0)
no_zero_product = euclid mersenne (lit< tt) is_prime

-- a multiple of a nonzero number tells the numbers below the prime apart
cancel_above : (a x y : ℕ) → a % mersenne ≢ 0 → x < mersenne → y ≤ x → a * x % mersenne ≡ a * y % mersenne → x ≡ y
cancel_above a x y some x_in above same =
    let d = x - y in
    let sum : x ≡ y + d = omega arith in
    let split : a * x ≡ a * y + a * d = ap (λ z. a * z) sum ∙ mul-add a y d in
    let none : a * d % mersenne ≡ 0 = omega (arith, split, same) in
    ⊎_elim (λ zero_a. absurd (some zero_a)) (λ zero_d. omega arith) (no_zero_product a d none)

pub cancel : (a x y : ℕ) → a % 0x1fff_ffff_ffff_ffff ≢ 0 → x < 0x1fff_ffff_ffff_ffff → y < 0x1fff_ffff_ffff_ffff
    → a * x % 0x1fff_ffff_ffff_ffff ≡ a * y % 0x1fff_ffff_ffff_ffff → x ≡ y
cancel a x y some x_in y_in same =
    ⊎_elim (λ less. sym (cancel_above a y x some y_in (omega arith) (sym same))) (λ more. cancel_above a x y some x_in more same) (cases_lt x y)
