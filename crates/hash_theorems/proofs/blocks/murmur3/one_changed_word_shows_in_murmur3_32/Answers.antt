use Rattle.hash_theorems.proofs.BlockCommon.{◌∷◌, [], slice_index, lit<, refl, murmur3_32, murmur3_32_facts}
use Rattle.hash_theorems.proofs.BlockLemmas.{differ-shows}
use Rattle.hash_theorems.proofs.blocks.murmur3.one_changed_word_shows_in_murmur3_32.Goals as goal

pub returns : goal.returns
returns c = λ seed.
    differ-shows (lit< tt) murmur3_32_facts (λ from text. murmur3_32 (slice_index from 0) text) (λ from text. refl) (seed ∷ [])
