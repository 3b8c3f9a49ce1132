use Rattle.hash_cuts.proofs.ChunkLemmas.{chunks-first}
use Rattle.hash_cuts.proofs.laws.first_chunk_and_the_rest.Goals as goal

pub returns : goal.returns
returns c = λ cuts text sizes some. chunks-first cuts sizes text some
