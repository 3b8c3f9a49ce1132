-- Where a hasher by the polynomial stands, a step for each byte.
use Rattle.std.specs.Prelude.{ℕ, ◌≡◌, ◌+◌, ◌-◌, ◌*◌, ◌/◌, ◌%◌, ◌^◌, ◌<◌, List, [], ◌∷◌, fold, length, take, drop, if◌then◌else◌, Bool, nat_eq, nat_lt, slice_index, slice_index_or}
use Rattle.hashers.specs.Text.{IsText}
use Rattle.hashers.specs.Words.{le}
use Rattle.hash_keyed.specs.Poly61.{prime61, poly_step, poly_hash}
use Rattle.hash_keyed.specs.declared.poly61.Poly61Place.{Poly61Place}

-- the key, the state after all full words, and the bytes behind these: the number that they are, the first the lowest, and how many
pub record Position : Type 0 where
  pub key : ℕ
  pub state : ℕ
  pub word : ℕ
  pub count : ℕ

-- the same in the numbers that a caller may keep
abbrev pub place_of : Poly61Place → Position
place_of place = record { key = place.key; state = place.state; word = place.word; count = place.count }

-- the key of a default hasher: any would do
abbrev pub default_key : ℕ
default_key = 1234567890123456789

-- before the first byte
abbrev pub start_at : ℕ → Position
start_at key = record { key = key; state = 1; word = 0; count = 0 }

-- one byte more: the seventh fills the word
unfoldable pub byte_in : Position → ℕ → Position
byte_in at byte =
    let word = at.word + byte * 2 ^ (8 * at.count) in
    if nat_lt at.count 6 then record { key = at.key; state = at.state; word = word; count = at.count + 1 }
    else record { key = at.key; state = poly_step prime61 at.key at.state word; word = 0; count = 0 }

-- after a text
abbrev pub after : Position → List ℕ → Position
after at text = fold byte_in at text

-- after full words, by a state that counts modulo the prime
abbrev pub full_words : ℕ → ℕ → Position
full_words key state = record { key = key; state = state % prime61; word = 0; count = 0 }

-- the second, third, fourth and eighth power of a key modulo the prime, each by a number that is little more than the prime
pub record ArePowers (key second third fourth eighth : ℕ) : Type 0 where
  pub key_in : key < prime61
  pub second_in : second < 2 ^ 61 + 8
  pub third_in : third < 2 ^ 61 + 8
  pub fourth_in : fourth < 2 ^ 61 + 8
  pub eighth_in : eighth < 2 ^ 61 + 8
  pub second_is : second % prime61 ≡ (key * key) % prime61
  pub third_is : third % prime61 ≡ (second * key) % prime61
  pub fourth_is : fourth % prime61 ≡ (second * second) % prime61
  pub eighth_is : eighth % prime61 ≡ (fourth * fourth) % prime61

-- the four words of twenty-eight bytes, each by its power
abbrev pub block_sum : ℕ → ℕ → ℕ → List ℕ → ℕ
block_sum key second third block =
    le (take 7 block) * third + le (take 7 (drop 7 block)) * second + le (take 7 (drop 14 block)) * key + le (take 7 (drop 21 block))

-- the value there: the bytes behind the full words, with a byte 1 behind them, are the last word
abbrev pub poly_end : Position → ℕ
poly_end at = (poly_step prime61 at.key at.state (at.word + 2 ^ (8 * at.count)) * at.key) % prime61

-- a value in 64 bits: the highest three are the lowest three once more
abbrev pub as_word : ℕ → ℕ
as_word value = value + value % 8 * 2 ^ 61

-- the hash of a text at a key
abbrev pub poly61 : ℕ → List ℕ → ℕ
poly61 key text = as_word (poly_hash prime61 key text)

-- the value of two texts joined, from the state behind the first, and the hash and the length in bytes of the second: what the second
-- has at the start 1 it has at the first one's state
abbrev pub joined_value : ℕ → ℕ → ℕ → ℕ → ℕ
joined_value key state1 hash2 length2 = ((state1 + (prime61 - 1)) * key ^ (length2 / 7 + 2) + hash2 % 2 ^ 61) % prime61

-- at the key some two of the texts have one hash
abbrev pub SomeTwoMeet : List (List ℕ) → ℕ → Type 0
SomeTwoMeet texts key =
    (i : ℕ) × (j : ℕ) × (i < j) × (j < length texts)
    × (poly61 key (slice_index_or texts i []) ≡ poly61 key (slice_index_or texts j []))

-- two texts have one hash at both keys of a pair
abbrev pub MeetAtBoth : List ℕ → List ℕ → ℕ × ℕ → Type 0
MeetAtBoth s t pair = (poly61 pair.0 s ≡ poly61 pair.0 t) × (poly61 pair.1 s ≡ poly61 pair.1 t)

-- the low bits of the hashes at a key, of which a table of 2^bits places takes the place, are the same
abbrev pub share_place : (bits key : ℕ) → List ℕ → List ℕ → Bool
share_place bits key s t = nat_eq (poly61 key s % 2 ^ bits) (poly61 key t % 2 ^ bits)

-- a position whose numbers are below their bounds
pub record IsPosition (at : Position) : Type 0 where
  pub key_in : at.key < prime61
  pub state_in : at.state < prime61
  pub word_in : at.word < 2 ^ (8 * at.count)
  pub count_in : at.count < 7

-- the start is a key below the prime, and the position is that after the text
pub record PolyStandsAt (at : Position) (from text : List ℕ) : Type 0 where
  pub key : ℕ
  pub only : from ≡ key ∷ []
  pub key_in : key < prime61
  pub is_text : IsText text
  pub there : at ≡ after (start_at key) text

-- the answer to a text, from a start of one key
abbrev pub poly61_from : List ℕ → List ℕ → ℕ
poly61_from from text = poly61 (slice_index from 0) text

-- a place at which a hasher stands behind the text, at a key
abbrev pub StandsBehind : (place : Poly61Place) (key : ℕ) (text : List ℕ) → Type 0
StandsBehind place key text = PolyStandsAt (place_of place) (key ∷ []) text
