use Rattle.hash_bloom.proofs.Common.{le_bytes_8}
use Rattle.hash_bloom.proofs.file.word_of.Goals as goal

pub returns : goal.returns
returns c = le_bytes_8 c.args.bytes.now c.from_le_bytes.result c.told-bytes (λ i. c.fits-bytes i) c.from_le_bytes.ensures
