-- What a rule by the block keeps of its blocks, from words and a flag.
use Rattle.std.specs.Prelude.{ℕ, ◌%◌, ◌^◌, not, nat_eq, List, [], ◌∷◌, slice_index}
use Rattle.hash_blocks.specs.declared.xxhash.at_32.Lanes32.{Lanes32}
use Rattle.hash_blocks.specs.declared.xxhash.at_64.Lanes.{Lanes}

-- the low half of a word
abbrev pub low : List ℕ → ℕ → ℕ
low words i = slice_index words i % 2 ^ 32

abbrev pub of_xxh32 : List ℕ → ℕ → Lanes32
of_xxh32 words long =
    record { lanes = low words 0 ∷ low words 1 ∷ low words 2 ∷ low words 3 ∷ []; long = not (nat_eq long 0) }

abbrev pub of_xxh64 : List ℕ → ℕ → Lanes
of_xxh64 words long = record { lanes = words; long = not (nat_eq long 0) }

abbrev pub of_murmur3_32 : List ℕ → ℕ → ℕ
of_murmur3_32 words long = low words 0

abbrev pub of_murmur3 : List ℕ → ℕ → ℕ × ℕ
of_murmur3 words long = (slice_index words 0, slice_index words 1)

abbrev pub of_siphash : List ℕ → ℕ → List ℕ
of_siphash words long = words
