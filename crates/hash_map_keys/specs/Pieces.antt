-- XXH3 for keys of maps: each piece in one call, seeded by what came before, and a single byte by a product.
use Rattle.std.specs.Prelude.{ℕ, ◌*◌, ◌^◌, ◌%◌, List, [], ◌∷◌, bit_xor}
use Rattle.hashers.specs.Words.{xorshift}
use Rattle.hash_xxh3.specs.Xxh3.{xxh3_64_of}
use Rattle.hash_map_keys.specs.declared.xxh3_pieces.Xxh3Pieces.{Xxh3Pieces}

-- after one byte
abbrev pub byte_step : (state byte : ℕ) → ℕ
byte_step state byte = xorshift (bit_xor state byte * 0x9e3779b185ebca87 % 2 ^ 64) 32

-- after a piece
unfoldable pub piece_step : (state : ℕ) → List ℕ → ℕ
piece_step state [] = xxh3_64_of state []
piece_step state (byte ∷ []) = byte_step state byte
piece_step state (a ∷ b ∷ more) = xxh3_64_of state (a ∷ b ∷ more)

abbrev pub begun_at : (seed : ℕ) → Xxh3Pieces
begun_at seed = record { state = seed }

abbrev pub after_piece : Xxh3Pieces → List ℕ → Xxh3Pieces
after_piece h piece = record { state = piece_step h.state piece }
