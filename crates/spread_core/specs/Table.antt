-- The numbers of the table.
use Rattle.std.specs.Prelude.{ℕ, List, [], ◌∷◌, ◌++◌, Option, Some, None}
use Rattle.hash_kinds.specs.declared.table.Kind.{Kind}
use Rattle.hash_kinds.specs.Named.{bits_of}
use Rattle.spread_core.specs.declared.counts.Counts.{Counts}
use Rattle.spread_core.specs.declared.counts.Spread.{Spread}

-- of so many buckets: the fullest one, the empty ones, the squares
abbrev pub spread_numbers : Spread → List ℕ
spread_numbers spread = spread.fullest ∷ spread.empty ∷ spread.squares ∷ []

-- the same of the second number of buckets, if there is one
abbrev pub second_numbers : Option Spread → List ℕ
second_numbers None = []
second_numbers (Some spread) = spread_numbers spread

-- the numbers of a row, in the order of their columns
abbrev pub row_numbers : Kind → Counts → List ℕ
row_numbers kind counts =
    bits_of kind ∷ counts.collisions ∷ (spread_numbers counts.first ++ second_numbers counts.second)
