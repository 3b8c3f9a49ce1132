-- Words of eight bytes behind the whole blocks of 32.
use Rattle.std.specs.Prelude.{◌≡◌, ℕ, ◌+◌, ◌*◌, ◌/◌, ◌%◌, ◌<◌, ◌≤◌, List, length}
use Rattle.hash_laws.specs.DifferWithin.{DifferInOneBlock}

-- a word between a front and a back of such lengths is one of those behind the whole blocks
pub record IsBehind (front back : ℕ) : Type 0 where
  pub place : front % 8 ≡ 0
  pub behind : front % 32 + 8 + back < 32

-- the lengths are equal, the texts differ, and all places where they do are in one of those words
pub record DifferInOneLastWord (x y : List ℕ) : Type 0 where
  pub differ : DifferInOneBlock 8 x y
  pub behind : length x / 32 * 32 ≤ differ.one.0 * 8
  pub whole : differ.one.0 * 8 + 8 ≤ length x
