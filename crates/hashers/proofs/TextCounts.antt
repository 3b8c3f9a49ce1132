-- There are 256 ^ n texts of n bytes: their little-endian values are the numbers below it.
use Rattle.hashers.proofs.Common.{◌≡◌, ℕ, zero, suc, lit<, ◌*◌, ◌/◌, ◌%◌, ◌^◌, ◌<◌, List, [], ◌∷◌, length, refl, ap, subst, arith, pow-suc, All-nil, All-cons, mod_below, IsText}
use Rattle.hash_laws.specs.Exactly.{ExactlyTexts}
use Rattle.hash_words.specs.Words.{le}
use Rattle.hash_words.proofs.PieceLemmas.{IsByte, le-lt, le-same}

-- n bytes of a number, the lowest first
bytes_of : ℕ → ℕ → List ℕ
bytes_of zero number = []
bytes_of (suc n) number = number % 256 ∷ bytes_of n (number / 256)

text_of : (n number : ℕ) → IsText (bytes_of n number)
unfolding bytes_of
text_of zero number = All-nil IsByte
text_of (suc n) number =
    All-cons IsByte (number % 256) (bytes_of n (number / 256)) (mod_below number 256 (lit< tt)) (text_of n (number / 256))

length_of : (n number : ℕ) → length (bytes_of n number) ≡ n
unfolding bytes_of
length_of zero number = refl
length_of (suc n) number = ap suc (length_of n (number / 256))

value_of : (n number : ℕ) → number < 256 ^ n → le (bytes_of n number) ≡ number
unfolding bytes_of le
value_of zero number below = omega (arith, below)
value_of (suc n) number below =
    let less : number < 256 ^ n * 256 = subst (λ most. number < most) (pow-suc 256 n) below in
    let rest : le (bytes_of n (number / 256)) ≡ number / 256 = value_of n (number / 256) (omega (arith, less)) in
    omega (arith, rest)

pub all_texts : (n : ℕ) → ExactlyTexts (256 ^ n) n (λ text. Unit {0})
all_texts n = record {
  value = bytes_of n;
  number = le;
  value_has = λ i below. (text_of n i, length_of n i, tt);
  number_below = λ text known. subst (λ k. le text < 256 ^ k) known.1 (le-lt text known.0);
  number_of_value = value_of n;
  value_of_number = λ text known.
      let below : le text < 256 ^ n = subst (λ k. le text < 256 ^ k) known.1 (le-lt text known.0) in
      le-same (bytes_of n (le text)) text (text_of n (le text)) known.0 (omega (arith, length_of n (le text), known.1))
      (value_of n (le text) below);
}
