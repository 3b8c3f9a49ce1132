-- The hash of words, and of numbers as such, by multiplying and shifting (M. Dietzfelbinger, "Universal Hashing and k-wise Independent Random Variables via
-- Integer Arithmetic without Primes", 1996).
use Rattle.std.specs.Prelude.{ℕ, Bool, ◌≡◌, ◌≢◌, nat_eq, ◌&&◌, ◌+◌, ◌*◌, ◌/◌, ◌%◌, ◌^◌, ◌<◌, List, [], ◌∷◌, length, All, AllPairs}

-- each multiplier times the word at its place, added up
unfoldable pub dot : List ℕ → List ℕ → ℕ
dot [] words = 0
dot (a ∷ multipliers) [] = 0
dot (a ∷ multipliers) (w ∷ words) = a * w + dot multipliers words

-- the high half of the 128 bits of these products and an addend
abbrev pub words_hash : (multipliers : List ℕ) (addend : ℕ) → List ℕ → ℕ
words_hash multipliers addend words = (dot multipliers words + addend) % 2 ^ 128 / 2 ^ 64

-- so many words of 64 bits
abbrev pub AreWords : ℕ → List ℕ → Type 0
AreWords n words = (length words ≡ n) × All (λ w. w < 2 ^ 64) words

-- lists of n multipliers with an addend, all below 2^128, no two of them equal
pub record AreTables (n : ℕ) (keys : List (List ℕ × ℕ)) : Type 0 where
  pub below : All (λ key. (length key.0 ≡ n) × All (λ a. a < 2 ^ 128) key.0 × (key.1 < 2 ^ 128)) keys
  pub differ : AllPairs ◌≢◌ keys

-- lists of n multipliers below 2^128, no two of them equal
pub record AreLists (n : ℕ) (multipliers : List (List ℕ)) : Type 0 where
  pub below : All (λ key. (length key ≡ n) × All (λ a. a < 2 ^ 128) key) multipliers
  pub differ : AllPairs ◌≢◌ multipliers

-- the high half of the 128 bits of a product and a sum
abbrev pub number_hash : (multiplier addend number : ℕ) → ℕ
number_hash multiplier addend number = (multiplier * number + addend) % 2 ^ 128 / 2 ^ 64

-- the same of a number of two words of 64 bits, each times a multiplier of its own
abbrev pub pair_hash : (multiplier multiplier2 addend number : ℕ) → ℕ
pair_hash multiplier multiplier2 addend number =
    (multiplier * (number % 2 ^ 64) + multiplier2 * (number / 2 ^ 64) + addend) % 2 ^ 128 / 2 ^ 64

-- under a hash the low bits of x and y, of which a table of 2^bits places takes the place, are the same
abbrev pub share_place : {Y : Type 0} (bits : ℕ) → (Y → ℕ) → Y → Y → Bool
share_place bits hash x y = nat_eq (hash x % 2 ^ bits) (hash y % 2 ^ bits)

-- under a hash those of x and y are u and v
abbrev pub have_hashes : {Y : Type 0} (x y : Y) (u v : ℕ) → (Y → ℕ) → Bool
have_hashes x y u v hash = nat_eq (hash x) u && nat_eq (hash y) v
