-- lookup3 (Bob Jenkins, lookup3.c) of one piece, on the words a, b and c of 32 bits.
use Rattle.std.specs.Prelude.{ℕ, ◌+◌, ◌*◌, ◌/◌, ◌%◌, ◌^◌, ◌<◌, List, [], ◌∷◌, length, take, drop, fold, slice_index, slice_set}
use Rattle.hash_words.specs.Words.{add, le}
use Rattle.hash_words.specs.Pieces.{pieces}
use Rattle.hash_rounds.specs.Steps.{apply}
use Rattle.hash_rounds.specs.Rounds as rounds
use Rattle.hash_jenkins.specs.Filled.{zero_filled}

abbrev pub add_word : List ℕ → ℕ → ℕ → List ℕ
add_word s i x = slice_set s i (add 32 (slice_index s i) x)

abbrev pub add_words : List ℕ → ℕ × ℕ × ℕ → List ℕ
add_words s (x, y, z) = add_word (add_word (add_word s 0 x) 1 y) 2 z

-- the three little-endian words of a block of twelve bytes; missing bytes count 0
abbrev pub block_words : List ℕ → ℕ × ℕ × ℕ
block_words block = (le (take 4 block), le (take 4 (drop 4 block)), le (take 4 (drop 8 block)))

-- the words of a block are added
abbrev pub add_block : List ℕ → List ℕ → List ℕ
add_block s block = add_words s (block_words block)

abbrev pub mix_block : List ℕ → List ℕ → List ℕ
mix_block s block = apply 32 rounds.lookup3_mix_steps [] (add_block s block)

abbrev pub mix_blocks : List ℕ → List (List ℕ) → List ℕ
mix_blocks s blocks = fold mix_block s blocks

-- a, b and c before a piece of n bytes
abbrev pub start : ℕ → ℕ → ℕ → List ℕ
start pc pb n =
    let first = (0xdeadbeef + n + pc) % 2 ^ 32 in
    first ∷ first ∷ (first + pb) % 2 ^ 32 ∷ []

-- what is left after the whole blocks, and zeros, up to twelve bytes
unfoldable pub last_block : List ℕ → List ℕ
last_block piece =
    zero_filled 12 (drop (length piece / 12 * 12) piece)

-- a, b and c after a piece that has some bytes
abbrev pub lookup3_words : ℕ → ℕ → List ℕ → List ℕ
lookup3_words pc pb piece =
    apply 32 rounds.lookup3_final_steps []
    (add_block (mix_blocks (start pc pb (length piece)) (pieces 12 piece)) (last_block piece))

-- the two words (pc, pb) after such a piece: c and b
abbrev pub lookup3_piece : ℕ → ℕ → List ℕ → ℕ × ℕ
lookup3_piece pc pb piece =
    let s = lookup3_words pc pb piece in
    (slice_index s 2, slice_index s 1)

-- the two words after any piece: no bytes change nothing
abbrev pub lookup3_from : ℕ × ℕ → List ℕ → ℕ × ℕ
lookup3_from s [] = s
lookup3_from s (byte ∷ piece) = lookup3_piece s.0 s.1 (byte ∷ piece)

-- the word a after a piece that has some bytes, which the answer leaves out
abbrev pub third_word : ℕ × ℕ → List ℕ → ℕ
third_word s piece = slice_index (lookup3_words s.0 s.1 piece) 0

-- the answer, of 64 bits
abbrev pub lookup3_answer : ℕ × ℕ → ℕ
lookup3_answer s = s.0 + 2 ^ 32 * s.1

-- the hash of a text in one piece
abbrev pub lookup3_of : List ℕ → ℕ
lookup3_of text = lookup3_answer (lookup3_from (0, 0) text)

-- two words of 32 bits
abbrev pub AreTwoWords : ℕ × ℕ → Type 0
AreTwoWords s = (s.0 < 2 ^ 32) × (s.1 < 2 ^ 32)
