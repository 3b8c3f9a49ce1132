-- XXH3 of 17 to 240 bytes: a sum of products of pieces of 16 bytes.
use Rattle.std.specs.Prelude.{ℕ, ◌+◌, ◌-◌, ◌*◌, List, [], ◌∷◌, length, fold, bit_xor, nat_le, nat_lt, if◌then◌else◌}
use Rattle.std.specs.List.{range_with_len}
use Rattle.hash_words.specs.Words.{add, sub}
use Rattle.hash_xxh3.specs.Secret.{default_secret}
use Rattle.hash_xxh3.specs.Words.{word_at, times, folded_product, avalanche}

-- the 16 bytes of a text from `at` on, mixed with the 16 bytes of the secret from `key` on
unfoldable pub mix_piece : ℕ → List ℕ → (at key : ℕ) → ℕ
mix_piece seed text at key =
    folded_product
    (bit_xor (word_at at text) (add 64 (word_at key default_secret) seed))
    (bit_xor (word_at (at + 8) text) (sub 64 (word_at (key + 8) default_secret) seed))

-- what the sum begins with
abbrev pub length_word : ℕ → ℕ
length_word len = times len 0x9e3779b185ebca87

-- one more piece in a sum
abbrev pub add_piece : ℕ → List ℕ → (sum at key : ℕ) → ℕ
add_piece seed text sum at key = add 64 sum (mix_piece seed text at key)

-- 17 to 128 bytes: piece i from the front and piece i from the back, where the text has so many
unfoldable pub add_ends : ℕ → List ℕ → (sum i : ℕ) → ℕ
add_ends seed text sum i =
    if nat_le (length text) (32 * i) then sum
    else add_piece seed text (add_piece seed text sum (16 * i) (32 * i)) (length text - 16 * i - 16) (32 * i + 16)

unfoldable pub of_128 : ℕ → List ℕ → ℕ
of_128 seed text = avalanche (fold (add_ends seed text) (length_word (length text)) (0 ∷ 1 ∷ 2 ∷ 3 ∷ []))

-- 129 to 240 bytes: piece i, where the text has so many; the first eight, and behind a mix of their sum the last 16 bytes and the others
unfoldable pub add_nth : ℕ → List ℕ → (sum i key : ℕ) → ℕ
add_nth seed text sum i key = if nat_lt (length text) (16 * i + 16) then sum else add_piece seed text sum (16 * i) key

abbrev pub first_pieces : ℕ → List ℕ → ℕ
first_pieces seed text = fold (λ sum i. add_nth seed text sum i (16 * i)) (length_word (length text)) (range_with_len 0 8)

abbrev pub other_pieces : ℕ → List ℕ → ℕ → ℕ
other_pieces seed text start = fold (λ sum i. add_nth seed text sum i (16 * i - 125)) start (range_with_len 8 7)

unfoldable pub of_240 : ℕ → List ℕ → ℕ
of_240 seed text =
    avalanche (other_pieces seed text (add 64 (avalanche (first_pieces seed text)) (mix_piece seed text (length text - 16) 119)))
