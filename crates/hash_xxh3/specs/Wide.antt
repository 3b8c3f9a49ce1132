-- XXH3 of 128 bits: a low word and a high one.
use Rattle.std.specs.Prelude.{ℕ, ◌+◌, ◌-◌, ◌*◌, ◌/◌, ◌%◌, ◌^◌, List, [], ◌∷◌, length, fold, nat_le, nat_lt, bit_xor, if◌then◌else◌}
use Rattle.std.specs.Int.{w32, w64, swap_bytes}
use Rattle.std.specs.List.{range_with_len}
use Rattle.hash_words.specs.Words.{add, sub, rotl, xorshift}
use Rattle.hash_xxh3.specs.Secret.{default_secret}
use Rattle.hash_xxh3.specs.Words.{word_at, half_at, times, avalanche, avalanche_64}
use Rattle.hash_xxh3.specs.Short.{secret_pair, few_number, of_few, eight_seed}
use Rattle.hash_xxh3.specs.Middle.{length_word, add_piece}
use Rattle.hash_xxh3.specs.Long.{secret_of, last_words, end_words, merge}
use Rattle.hash_xxh3.specs.Streaming.{Position, Short, Long}

-- ---- at most 16 bytes

unfoldable pub wide_none : ℕ → ℕ × ℕ
wide_none seed = (avalanche_64 (bit_xor seed (secret_pair 64)), avalanche_64 (bit_xor seed (secret_pair 80)))

-- one to three bytes: the number of the low word, its bytes in the other order and turned by 13 bits
unfoldable pub few_turned : ℕ → ℕ
few_turned number = rotl 32 (swap_bytes w32 number) 13

unfoldable pub few_flip_high : ℕ → ℕ
few_flip_high seed = sub 64 (bit_xor (half_at 8 default_secret) (half_at 12 default_secret)) seed

abbrev pub wide_few : ℕ → List ℕ → ℕ × ℕ
wide_few seed text = (of_few seed text, avalanche_64 (bit_xor (few_turned (few_number text)) (few_flip_high seed)))

-- four to eight bytes: the last four and the first four, as one number
unfoldable pub eight_wide_number : List ℕ → ℕ
eight_wide_number text = half_at 0 text + half_at (length text - 4) text * 2 ^ 32

unfoldable pub eight_wide_flip : ℕ → ℕ
eight_wide_flip seed = add 64 (secret_pair 16) (eight_seed seed)

-- the whole product by an odd number of the length, and both its words mixed
unfoldable pub eight_product : ℕ → ℕ → ℕ
eight_product len word = word * (0x9e3779b185ebca87 + 4 * len)

unfoldable pub eight_high : ℕ → ℕ
eight_high product = add 64 (product / 2 ^ 64) (times (product % 2 ^ 64) 2)

unfoldable pub eight_low : ℕ → ℕ → ℕ
eight_low product high =
    xorshift (times (xorshift (bit_xor (product % 2 ^ 64) (high / 2 ^ 3)) 35) 0x9fb21c651e98df25) 28

abbrev pub wide_words : ℕ → ℕ × ℕ
wide_words product = (eight_low product (eight_high product), avalanche (eight_high product))

abbrev pub wide_eight : ℕ → List ℕ → ℕ × ℕ
wide_eight seed text = wide_words (eight_product (length text) (bit_xor (eight_wide_number text) (eight_wide_flip seed)))

-- nine to sixteen bytes: the first eight and the last eight, folded onto each other, as a product
unfoldable pub sixteen_product : ℕ → List ℕ → ℕ
sixteen_product seed text =
    bit_xor (bit_xor (word_at 0 text) (word_at (length text - 8) text)) (sub 64 (secret_pair 32) seed) * 0x9e3779b185ebca87

unfoldable pub sixteen_back : ℕ → List ℕ → ℕ
sixteen_back seed text = bit_xor (word_at (length text - 8) text) (add 64 (secret_pair 48) seed)

-- the high word of the product with the last eight bytes, of which the low half is multiplied
unfoldable pub sixteen_high : ℕ → ℕ → ℕ
sixteen_high product back = add 64 (product / 2 ^ 64) (add 64 back (back % 2 ^ 32 * 0x85ebca76))

-- the low one with the length, and the high one's bytes in the other order
unfoldable pub sixteen_low : ℕ → ℕ → ℕ → ℕ
sixteen_low len product high = bit_xor (add 64 (product % 2 ^ 64) ((len - 1) * 2 ^ 54)) (swap_bytes w64 high)

-- the product of 128 bits by an odd number, and both its words mixed
unfoldable pub sixteen_end : ℕ → ℕ → ℕ × ℕ
sixteen_end low high =
    let product = low * 0xc2b2ae3d27d4eb4f in
    (avalanche (product % 2 ^ 64), avalanche (add 64 (product / 2 ^ 64) (times high 0xc2b2ae3d27d4eb4f)))

abbrev pub wide_sixteen : ℕ → List ℕ → ℕ × ℕ
wide_sixteen seed text =
    let high = sixteen_high (sixteen_product seed text) (sixteen_back seed text) in
    sixteen_end (sixteen_low (length text) (sixteen_product seed text) high) high

-- ---- 17 to 240 bytes

-- two pieces of 16 bytes: each is mixed into one word, and the sum of its words folded onto the other
unfoldable pub add_two : ℕ → List ℕ → ℕ × ℕ → (first second key : ℕ) → ℕ × ℕ
add_two seed text sums first second key = (
  bit_xor (add_piece seed text sums.0 first key) (add 64 (word_at second text) (word_at (second + 8) text)),
  bit_xor (add_piece seed text sums.1 second (key + 16)) (add 64 (word_at first text) (word_at (first + 8) text)),
)

unfoldable pub wide_end : ℕ → ℕ → ℕ × ℕ → ℕ × ℕ
wide_end seed len sums = (
  avalanche (add 64 sums.0 sums.1),
  sub 64 0 (avalanche (add 64 (add 64 (times sums.0 0x9e3779b185ebca87) (times sums.1 0x85ebca77c2b2ae63))
      (times (sub 64 len seed) 0xc2b2ae3d27d4eb4f))),
)

-- pair i from the ends of 17 to 128 bytes, where the text has so many; from the inmost to the outmost
unfoldable pub add_pair : ℕ → List ℕ → ℕ × ℕ → (i : ℕ) → ℕ × ℕ
add_pair seed text sums i =
    if nat_le (length text) (32 * i) then sums
    else add_two seed text sums (16 * i) (length text - 16 * i - 16) (32 * i)

unfoldable pub wide_128 : ℕ → List ℕ → ℕ × ℕ
wide_128 seed text =
    wide_end seed (length text) (fold (add_pair seed text) (length_word (length text), 0) (3 ∷ 2 ∷ 1 ∷ 0 ∷ []))

-- 129 to 240 bytes: four pairs of neighbours, the other pairs, and the last 32 bytes under the negative seed
abbrev pub first_pairs : ℕ → List ℕ → ℕ × ℕ
first_pairs seed text =
    fold (λ sums i. add_two seed text sums (32 * i) (32 * i + 16) (32 * i)) (length_word (length text), 0) (range_with_len 0 4)

abbrev pub other_pairs : ℕ → List ℕ → ℕ × ℕ → ℕ × ℕ
other_pairs seed text start =
    fold (λ sums i. add_two seed text sums (32 * i) (32 * i + 16) (32 * i - 125)) start (range_with_len 4 (length text / 32 - 4))

abbrev pub both_mixed : ℕ × ℕ → ℕ × ℕ
both_mixed sums = (avalanche sums.0, avalanche sums.1)

unfoldable pub wide_240 : ℕ → List ℕ → ℕ × ℕ
wide_240 seed text =
    wide_end seed (length text)
    (add_two (sub 64 0 seed) text (other_pairs seed text (both_mixed (first_pairs seed text))) (length text - 16) (length text - 32) 103)

-- ---- more than 240 bytes

unfoldable pub wide_end_long : (secret words : List ℕ) → ℕ → ℕ × ℕ
wide_end_long secret words len = (
  merge words secret 11 (length_word len),
  merge words secret 117 (2 ^ 64 - 1 - times len 0xc2b2ae3d27d4eb4f),
)

unfoldable pub wide_under : (secret : List ℕ) → List ℕ → ℕ × ℕ
wide_under secret text = wide_end_long secret (end_words secret text) (length text)

abbrev pub wide_long : ℕ → List ℕ → ℕ × ℕ
wide_long seed text = wide_under (secret_of seed) text

-- ---- the hash

abbrev pub wide_short : ℕ → List ℕ → ℕ × ℕ
wide_short seed text =
    if nat_lt (length text) 1 then wide_none seed
    else if nat_lt (length text) 4 then wide_few seed text
    else if nat_lt (length text) 9 then wide_eight seed text
    else wide_sixteen seed text

abbrev pub wide_kept : ℕ → List ℕ → ℕ × ℕ
wide_kept seed text =
    if nat_lt (length text) 17 then wide_short seed text
    else if nat_lt (length text) 129 then wide_128 seed text
    else wide_240 seed text

unfoldable pub xxh3_128_of : ℕ → List ℕ → ℕ × ℕ
xxh3_128_of seed text = if nat_lt (length text) 241 then wide_kept seed text else wide_long seed text

-- that at a position of a hasher
abbrev pub wide_hash : Position → ℕ × ℕ
wide_hash (Short seed text) = wide_kept seed text
wide_hash (Long seed lanes len kept) = wide_end_long (secret_of seed) (last_words (secret_of seed) lanes.words kept) len
