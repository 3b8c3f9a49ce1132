-- Spooky's blocks of 96 bytes.
use Rattle.std.specs.Prelude.{ℕ, List, fold, reverse}
use Rattle.hash_words.specs.Pieces.{pieces, le_words}
use Rattle.hash_rounds.specs.Steps.{apply, undo}
use Rattle.hash_rounds.specs.Rounds.{spooky_mix_steps}

-- a state with the words of a block mixed in, and taken out again
abbrev pub mix_block : List ℕ → List ℕ → List ℕ
mix_block s block = apply 64 spooky_mix_steps (le_words block) s

abbrev pub unmix_block : List ℕ → List ℕ → List ℕ
unmix_block s block = apply 64 (undo 64 spooky_mix_steps) (le_words block) s

-- the same for all blocks of a text, from the first to the last and from the last to the first
unfoldable pub spooky_blocks : List ℕ → List ℕ → List ℕ
spooky_blocks s bytes = fold mix_block s (pieces 96 bytes)

unfoldable pub spooky_unblocks : List ℕ → List ℕ → List ℕ
spooky_unblocks s bytes = fold unmix_block s (reverse (pieces 96 bytes))
