-- Texts that differ in a few neighbouring bits. The bits of a text are those of its little-endian number: its first is the low bit of the
-- first byte.
use Rattle.std.specs.Prelude.{ℕ, ◌≡◌, ◌*◌, ◌^◌, ◌<◌, List, length, bit_xor}
use Rattle.hash_words.specs.Words.{le}

-- some bits are set, and they lie within so many neighbouring places: they are a pattern of so many bits, from a place on
pub record IsBurst (bits number : ℕ) : Type 0 where
  pub from : ℕ
  pub pattern : ℕ
  pub some : 0 < pattern
  pub fits : pattern < 2 ^ bits
  pub is : number ≡ 2 ^ from * pattern

-- the lengths are equal, and the bits in which the texts differ are a burst
pub record DifferWithinBits (bits : ℕ) (x y : List ℕ) : Type 0 where
  pub same_length : length x ≡ length y
  pub burst : IsBurst bits (bit_xor (le x) (le y))
