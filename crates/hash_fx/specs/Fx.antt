-- The hash of the Firefox and rustc hash tables: a piece as words, and the words one after the other.
use Rattle.std.specs.Prelude.{ℕ, ◌*◌, ◌/◌, ◌%◌, ◌^◌, List, ◌++◌, length, drop, map, bit_xor}
use Rattle.hash_words.specs.Words.{le, rotl}
use Rattle.hash_words.specs.Pieces.{pieces}
use Rattle.hash_laws.specs.Recurrence.{recurrence}

-- by 32 bits: a little-endian word for each four bytes, and then a word for each byte that is left
abbrev pub words32 : List ℕ → List ℕ
words32 piece = map le (pieces 4 piece) ++ drop (length piece / 4 * 4) piece

-- by 64 bits: a word for each eight bytes, then one of four bytes if at least four are left, and then one for each byte
abbrev pub words64 : List ℕ → List ℕ
words64 piece = map le (pieces 8 piece) ++ words32 (drop (length piece / 8 * 8) piece)

-- one word: the state is turned by five, the word xored in, and then a product by a key
abbrev pub fx64_step : ℕ → ℕ → ℕ
fx64_step h v = bit_xor (rotl 64 h 5) v * 0x517cc1b727220a95 % 2 ^ 64

-- the same by 32 bits; its key is the low half of the other
abbrev pub fx32_step : ℕ → ℕ → ℕ
fx32_step h v = bit_xor (rotl 32 h 5) v * 0x27220a95 % 2 ^ 32

-- the state after words, from a start, by default 0
abbrev pub fx32 : ℕ → List ℕ → ℕ
fx32 = recurrence fx32_step

abbrev pub fx64 : ℕ → List ℕ → ℕ
fx64 = recurrence fx64_step
