-- Numbers that digits write.
use Rattle.cli.proofs.Common.{rules, ◌≡◌, ◌<◌, ◌^◌, ℕ, List, length, true, None, arith, inl, inr, IsUtf8, all_ascii_digits, IsNumeralModel, numerals_by_fold, number_of}
use Rattle.std.proofs.lemmas.Bool.{cases_lt}
use Rattle.std.proofs.lemmas.Bool.Decides.{nat_tests}
use Rattle.std.proofs.lemmas.Fmt.{IsAscii-from_digits}
use Rattle.std.proofs.lemmas.Str.{IsUtf8-from_ascii}
use Rattle.std.specs.Str.Parse.{digits_value, digits_value_after}

pub own : IsNumeralModel (λ ds. all_ascii_digits ds ≡ true) (digits_value 10)
own = numerals_by_fold _ (search rules) (digits_value_after 10) (search rules)

pub digits_are_text : (digits : List ℕ) → all_ascii_digits digits ≡ true → IsUtf8 digits
digits_are_text digits all = IsUtf8-from_ascii digits (IsAscii-from_digits digits (own.to digits all))

pub no_number : (digits : List ℕ) → all_ascii_digits digits ≡ true → ((0 < length digits) × (digits_value 10 digits < 2 ^ 64) → ⊥)
    → None ≡ number_of digits
no_number digits all neither = elim (cases_lt 0 (length digits)) [
  | inl some ↦ elim (cases_lt (digits_value 10 digits) (2 ^ 64)) [
    | inl fits ↦ absurd (neither (some, fits))
    | inr big ↦ grind (arith, nat_tests)
  ]
  | inr none ↦ grind (arith, nat_tests)
]
