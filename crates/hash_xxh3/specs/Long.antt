-- XXH3 of more than 240 bytes: stripes of 64 bytes into eight words.
use Rattle.std.specs.Prelude.{◌≡◌, ◌<◌, ℕ, ◌+◌, ◌-◌, ◌*◌, ◌/◌, ◌%◌, ◌^◌, List, [], ◌∷◌, ◌++◌, length, fold, drop, map, bit_xor, slice_index, nat_lt, if◌then◌else◌}
use Rattle.std.specs.Int.{w64, to_le_bytes}
use Rattle.std.specs.List.{range_with_len, flat_map}
use Rattle.std.specs.Simd.{first_chunks}
use Rattle.hash_words.specs.Words.{AreWords, add, sub, xorshift}
use Rattle.hash_xxh3.specs.Secret.{default_secret}
use Rattle.hash_xxh3.specs.Words.{word_at, times, folded_product, avalanche}
use Rattle.hash_xxh3.specs.Middle.{length_word}
use Rattle.hash_xxh3.specs.declared.long.Lanes.{Lanes}

-- the secret of a seed: the seed is added to each word of even number, and taken from each of odd number
abbrev pub secret_piece : ℕ → ℕ → List ℕ
secret_piece seed i =
    to_le_bytes w64 (add 64 (word_at (16 * i) default_secret) seed)
    ++ to_le_bytes w64 (sub 64 (word_at (16 * i + 8) default_secret) seed)

unfoldable pub secret_of : ℕ → List ℕ
secret_of seed = flat_map (secret_piece seed) (range_with_len 0 12)

-- the eight words before the first stripe
abbrev pub start_words : List ℕ
start_words =
    0xc2b2ae3d ∷ 0x9e3779b185ebca87 ∷ 0xc2b2ae3d27d4eb4f ∷ 0x165667b19e3779f9
    ∷ 0x85ebca77c2b2ae63 ∷ 0x85ebca77 ∷ 0x27d4eb2f165667c5 ∷ 0x9e3779b1 ∷ []

-- the product of a word's two halves
unfoldable pub halves_product : ℕ → ℕ
halves_product x = x % 2 ^ 32 * (x / 2 ^ 32)

-- word i, with the neighbour's word j of the stripe added, and the product of the halves of its own under the secret
unfoldable pub lane : List ℕ → (stripe secret : List ℕ) → (at i j : ℕ) → ℕ
lane words stripe secret at i j =
    add 64 (add 64 (slice_index words i) (word_at (8 * j) stripe))
    (halves_product (bit_xor (word_at (8 * i) stripe) (word_at (at + 8 * i) secret)))

-- the words after a stripe, under the 64 bytes of the secret from `at` on
unfoldable pub accumulate : List ℕ → (stripe secret : List ℕ) → ℕ → List ℕ
accumulate words stripe secret at =
    let word = lane words stripe secret at in
    word 0 1 ∷ word 1 0 ∷ word 2 3 ∷ word 3 2 ∷ word 4 5 ∷ word 5 4 ∷ word 6 7 ∷ word 7 6 ∷ []

-- word i at the end of a block
unfoldable pub scrambled : ℕ → ℕ → ℕ
scrambled key word = times (bit_xor (xorshift word 47) key) 0x9e3779b1

unfoldable pub scramble : List ℕ → List ℕ → List ℕ
scramble words secret = map (λ i. scrambled (word_at (128 + 8 * i) secret) (slice_index words i)) (range_with_len 0 8)

-- the words, and the number of the next stripe in its block of sixteen, after one stripe more
unfoldable pub stripe_in : List ℕ → Lanes → List ℕ → Lanes
stripe_in secret lanes stripe =
    let words = accumulate lanes.words stripe secret (8 * lanes.stripe) in
    if nat_lt lanes.stripe 15 then record { words = words; stripe = lanes.stripe + 1 }
    else record { words = scramble words secret; stripe = 0 }

abbrev pub start_lanes : Lanes
start_lanes = record { words = start_words; stripe = 0 }

-- the words after so many stripes of a text
unfoldable pub stripes_in : List ℕ → Lanes → ℕ → List ℕ → Lanes
stripes_in secret lanes count text = fold (stripe_in secret) lanes (first_chunks 64 count text)

-- two words folded into one, under 16 bytes of the secret's 64 from `at` on
unfoldable pub merge_pair : List ℕ → (secret : List ℕ) → (at i : ℕ) → ℕ
merge_pair words secret at i =
    folded_product (bit_xor (slice_index words (2 * i)) (word_at (at + 16 * i) secret))
    (bit_xor (slice_index words (2 * i + 1)) (word_at (at + 16 * i + 8) secret))

unfoldable pub merge : List ℕ → (secret : List ℕ) → (at start : ℕ) → ℕ
merge words secret at start =
    avalanche (add 64 (add 64 (add 64 (add 64 start (merge_pair words secret at 0)) (merge_pair words secret at 1))
    (merge_pair words secret at 2)) (merge_pair words secret at 3))

-- the words at the end of a text: its last 64 bytes are a stripe once more
abbrev pub last_words : (secret words text : List ℕ) → List ℕ
last_words secret words text = accumulate words (drop (length text - 64) text) secret 121

-- the eight words that a text of more than 240 bytes ends in: all stripes but the last, and the last 64 bytes
abbrev pub end_words : (secret text : List ℕ) → List ℕ
end_words secret text = last_words secret (stripes_in secret start_lanes ((length text - 1) / 64) text).words text

-- they are folded into the hash of a text of so many bytes
unfoldable pub end_long : (secret words : List ℕ) → ℕ → ℕ
end_long secret words len = merge words secret 11 (length_word len)

unfoldable pub long_under : (secret : List ℕ) → List ℕ → ℕ
long_under secret text = end_long secret (end_words secret text) (length text)

abbrev pub of_long : ℕ → List ℕ → ℕ
of_long seed text = long_under (secret_of seed) text

-- eight words, and a stripe's number in a block
pub record IsLanes (l : Lanes) : Type 0 where
  pub eight : length l.words ≡ 8
  pub words_in : AreWords 64 l.words
  pub in_block : l.stripe < 16
