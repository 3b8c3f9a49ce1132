-- Words of four bytes.
use Rattle.std.specs.Prelude.{ℕ, ◌+◌, ◌*◌, ◌≤◌, List, length}
use Rattle.hash_laws.specs.DifferWithin.{DifferInOneBlock}

-- the lengths are equal, the texts differ, and all places where they do are in one whole word of four bytes, from a place that 4 divides
pub record DifferInOneWord (x y : List ℕ) : Type 0 where
  pub differ : DifferInOneBlock 4 x y
  pub whole : differ.one.0 * 4 + 4 ≤ length x
