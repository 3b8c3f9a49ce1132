-- How many values have a property: as many as there are numbers below n, by a bijection between the two.
use Rattle.std.specs.Prelude.{◌≡◌, ℕ, ◌<◌, List, length}
use Rattle.hash_laws.specs.Text.{IsText}

-- exactly n values have the property: each of them has a number below n, and each such number is that of one of them
pub record Exactly {A : Type 0} (n : ℕ) (has : A → Type 0) : Type 0 where
  pub value : ℕ → A
  pub number : A → ℕ
  pub value_has : (i : ℕ) → i < n → has (value i)
  pub number_below : (x : A) → has x → number x < n
  pub number_of_value : (i : ℕ) → i < n → number (value i) ≡ i
  pub value_of_number : (x : A) → has x → value (number x) ≡ x

-- exactly n texts of a length have it
abbrev pub ExactlyTexts : (n len : ℕ) → (List ℕ → Type 0) → Type 0
ExactlyTexts n len has = Exactly n (λ text. IsText text × (length text ≡ len) × has text)
