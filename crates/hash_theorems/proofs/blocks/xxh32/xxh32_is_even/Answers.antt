use Rattle.hash_theorems.proofs.BlockCommon.{lit<}
use Rattle.hash_theorems.proofs.BackLemmas.{one_block}
use Rattle.hash_theorems.proofs.Words32.{framed}
use Rattle.hash_theorems.proofs.blocks.xxh32.xxh32_is_even.Goals as goal

pub returns : goal.returns
returns c = λ seed hash front back seed_in hash_in fronts backs place.
    one_block 4 (lit< tt) (framed seed seed_in front back fronts backs place).1 hash hash_in
