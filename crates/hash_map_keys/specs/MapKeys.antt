-- The hash of a key of a map by its words: the first 128 bytes are sixteen, and one more is the hash of those behind them.
use Rattle.std.specs.Prelude.{ℕ, zero, suc, ◌≡◌, ◌≢◌, ◌<◌, ◌^◌, List, [], ◌∷◌, ◌++◌, length, take, drop, All, AllPairs, ◌+◌, ◌*◌, slice_index}
use Rattle.hash_keyed.specs.Poly61.{prime61}
use Rattle.hashers.specs.Words.{le}
use Rattle.hash_keyed.specs.Poly61State.{poly61}
use Rattle.hash_map_keys.specs.Numbers.{words_hash}

-- so many words of eight bytes, each the number that they are, with zeros behind the last byte
unfoldable pub eights : ℕ → List ℕ → List ℕ
eights zero bytes = []
eights (suc n) bytes = le (take 8 bytes) ∷ eights n (drop 8 bytes)

-- the number that the bytes behind the first 128 are: 0 where there are none
unfoldable pub last_word : (text_key : ℕ) → List ℕ → ℕ
last_word text_key [] = 0
last_word text_key (byte ∷ bytes) = poly61 text_key (byte ∷ bytes)

-- the seventeen words of a key of a map
abbrev pub key_words : (text_key : ℕ) → List ℕ → List ℕ
key_words text_key bytes = eights 16 bytes ++ (last_word text_key (drop 128 bytes) ∷ [])

-- its hash
abbrev pub map_hash : (multipliers : List ℕ) (addend text_key : ℕ) → List ℕ → ℕ
map_hash multipliers addend text_key bytes = words_hash multipliers addend (key_words text_key bytes)

-- neither key is the beginning of the other, nor all of it: what std's traits feed for two different values of one type
abbrev pub NeitherBegins : List ℕ → List ℕ → Type 0
NeitherBegins s t = (take (length s) t ≢ s) × (take (length t) s ≢ t)

-- seventeen multipliers and an addend below 2^128, with a key for texts below the prime, no two of them equal
pub record AreMapKeys (keys : List ((List ℕ × ℕ) × ℕ)) : Type 0 where
  pub below : All (λ key. (length key.0.0 ≡ 17) × All (λ a. a < 2 ^ 128) key.0.0 × (key.0.1 < 2 ^ 128) × (key.1 < prime61)) keys
  pub differ : AllPairs ◌≢◌ keys

-- the number of 128 bits of two words from a place on, the high one first, and so many of these numbers
abbrev pub wide : List ℕ → ℕ → ℕ
wide words j = slice_index words j * 2 ^ 64 + slice_index words (suc j)

unfoldable pub wides : List ℕ → (count j : ℕ) → List ℕ
wides words zero j = []
wides words (suc count) j = wide words j ∷ wides words count (suc (suc j))
