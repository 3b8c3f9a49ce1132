-- The pieces of a text, and their words.
use Rattle.std.specs.Prelude.{ℕ, ◌/◌, List, length, map}
use Rattle.std.specs.Simd.{first_chunks}
use Rattle.hash_words.specs.Words.{le}

-- the whole pieces of n bytes of a text
unfoldable pub pieces : ℕ → List ℕ → List (List ℕ)
pieces n bytes = first_chunks n (length bytes / n) bytes

-- a text's pieces of eight bytes as little-endian words
unfoldable pub le_words : List ℕ → List ℕ
le_words block = map le (pieces 8 block)
