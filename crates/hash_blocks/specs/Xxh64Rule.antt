-- XXH64 as a rule by the block: what is kept is four lanes, and whether a block was taken in.
use Rattle.std.specs.Prelude.{ℕ, true, false, if◌then◌else◌, List, slice_index}
use Rattle.hash_words.specs.Words.{add}
use Rattle.hash_blocks.specs.Xxh64.{p5, start, after_block, converged, ended}
use Rattle.hash_blocks.specs.declared.xxhash.at_64.Lanes.{Lanes}

abbrev pub started : ℕ → Lanes
started seed = record { lanes = start seed; long = false }

abbrev pub block_in : Lanes → List ℕ → Lanes
block_in s block = record { lanes = after_block s.lanes block; long = true }

-- the third lane starts from the seed
abbrev pub finished : Lanes → List ℕ → ℕ → ℕ
finished s left total = ended (if s.long then converged s.lanes else add 64 (slice_index s.lanes 2) p5) left total
