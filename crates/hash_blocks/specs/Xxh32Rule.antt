-- XXH32 as a rule by the block: what is kept is four lanes, and whether a block was taken in.
use Rattle.std.specs.Prelude.{ℕ, true, false, if◌then◌else◌, List, slice_index}
use Rattle.hash_words.specs.Words.{add}
use Rattle.hash_blocks.specs.Xxh32.{q5, start, after_block, converged, ended}
use Rattle.hash_blocks.specs.declared.xxhash.at_32.Lanes32.{Lanes32}

abbrev pub started : ℕ → Lanes32
started seed = record { lanes = start seed; long = false }

abbrev pub block_in : Lanes32 → List ℕ → Lanes32
block_in s block = record { lanes = after_block s.lanes block; long = true }

-- the third lane starts from the seed
abbrev pub finished : Lanes32 → List ℕ → ℕ → ℕ
finished s left total = ended (if s.long then converged s.lanes else add 32 (slice_index s.lanes 2) q5) left total
