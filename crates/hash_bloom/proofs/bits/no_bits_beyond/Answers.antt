use Rattle.hash_bloom.proofs.Lemmas.{rules, clear_beyond}
use Rattle.hash_bloom.proofs.Common.{Decides-eqb}
use Rattle.hash_bloom.proofs.bits.no_bits_beyond.Goals as goal

pub returns-else-bits-eq0 : goal.returns-else-bits-eq0
returns-else-bits-eq0 c = search (rules, clear_beyond, Decides-eqb)
