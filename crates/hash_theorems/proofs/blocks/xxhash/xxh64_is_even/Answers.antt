use Rattle.hash_theorems.proofs.BlockCommon.{lit<}
use Rattle.hash_theorems.proofs.BackLemmas.{one_block}
use Rattle.hash_theorems.proofs.Words64.{framed}
use Rattle.hash_theorems.proofs.blocks.xxhash.xxh64_is_even.Goals as goal

pub returns : goal.returns
returns c = λ seed hash front back hash_in fronts backs place. one_block 8 (lit< tt) (framed seed front back fronts backs place) hash hash_in
