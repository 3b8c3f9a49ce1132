use Rattle.hash_cuts.proofs.InStep.{own-bytes}
use Rattle.hash_cuts.proofs.laws.a_chunk_depends_on_its_bytes.Goals as goal

pub returns : goal.returns
returns c = λ cuts text other sizes before. own-bytes cuts sizes text other before
