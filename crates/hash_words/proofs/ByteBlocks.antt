-- Blocks of bytes as little-endian words, and back.
use Rattle.hash_words.proofs.Common.{◌≡◌, ℕ, ◌+◌, ◌%◌, ◌^◌, ◌<◌, List, ◌++◌, take, drop, refl, sym, arith, lit<, length-append, ap₂, take_at, drop_at, mod_below, All-append, All-take, All-drop, All-from_recursion, w32, w64, to_le_bytes, le, Undoes, IsWord, length-drop, take-append-drop, length-take-le, ◌∙◌, le_of_eq}
use Rattle.hash_words.proofs.ByteLemmas.{le-few}
use Rattle.hash_words.proofs.PieceLemmas.{IsByte, IsPiece, le-same}
use Rattle.hash_words.proofs.WordLemmas.{le-to_le_bytes-32, le-to_le_bytes-64}

byte : (n : ℕ) → n % 256 < 256
byte n = mod_below n 256 (lit< tt)

module _ (x : ℕ) where
  four_bytes : IsPiece 4 (to_le_bytes w32 x)
  four_bytes = (All-from_recursion IsByte (to_le_bytes w32 x) (byte _, (byte _, (byte _, (byte _, tt)))), refl)

  eight_bytes : IsPiece 8 (to_le_bytes w64 x)
  eight_bytes = (
    All-from_recursion IsByte (to_le_bytes w64 x) (byte _, (byte _, (byte _, (byte _, (byte _, (byte _, (byte _, (byte _, tt)))))))),
    refl,
  )

-- n bytes are a word of w bits
module _ (n w : ℕ) (wide : 256 ^ n ≡ 2 ^ w) (bytes : ℕ → List ℕ) (are : (x : ℕ) → IsPiece n (bytes x))
    (value : (x : ℕ) → x < 2 ^ w → le (bytes x) ≡ x) where
  of_bytes : Undoes (IsPiece n) (IsWord w) le bytes
  of_bytes =
      let word = λ (b : List ℕ) (is : IsPiece n b). rw wide at (le-few n b is.0 (le_of_eq is.1)) in
      record {
        there_in = word;
        back_in = λ x _. are x;
        back = λ b is. le-same (bytes (le b)) b (are (le b)).0 is.0 ((are (le b)).1 ∙ sym is.1) (value (le b) (word b is));
        there = value;
      }

pub of_four_bytes : Undoes (IsPiece 4) (IsWord 32) le (to_le_bytes w32)
of_four_bytes = of_bytes 4 32 refl (to_le_bytes w32) four_bytes le-to_le_bytes-32

pub of_eight_bytes : Undoes (IsPiece 8) (IsWord 64) le (to_le_bytes w64)
of_eight_bytes = of_bytes 8 64 refl (to_le_bytes w64) eight_bytes le-to_le_bytes-64

-- a block as two halves
pub of_halves : (n k : ℕ) → n + n ≡ k → Undoes (IsPiece k) (λ (p : List ℕ × List ℕ). IsPiece n p.0 × IsPiece n p.1) (λ b. (take n b, drop n b)) (λ p. p.0 ++ p.1)
of_halves n k twice = record {
  there_in = λ b is. (
    (All-take IsByte n b is.0, length-take-le n b (omega (arith, is.1, twice))),
    (All-drop IsByte n b is.0, omega (arith, is.1, twice, length-drop n b)),
  );
  back_in = λ p is. (All-append IsByte p.0 p.1 is.0.0 is.1.0, omega (arith, length-append p.0 p.1, is.0.1, is.1.1, twice));
  back = λ b is. take-append-drop n b;
  there = λ p is. ap₂ (λ (a b : List ℕ). (a, b)) (take_at p.0 p.1 n is.0.1) (drop_at p.0 p.1 n is.0.1);
}
