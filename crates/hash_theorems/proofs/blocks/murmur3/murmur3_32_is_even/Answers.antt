use Rattle.hash_theorems.proofs.BlockCommon.{◌∷◌, [], slice_index, lit<, refl, murmur3_32, murmur3_32_facts}
use Rattle.hash_theorems.proofs.BackLemmas.{one_block}
use Rattle.hash_theorems.proofs.BlockLemmas.{framed}
use Rattle.hash_theorems.proofs.blocks.murmur3.murmur3_32_is_even.Goals as goal

pub returns : goal.returns
returns c = λ seed hash front back seed_in hash_in fronts backs place.
    one_block 4 (lit< tt) (framed (lit< tt) murmur3_32_facts (λ from text. murmur3_32 (slice_index from 0) text) (λ from text. refl)
    (seed ∷ []) front back seed_in fronts backs place) hash hash_in
