use Rattle.hash_bloom.proofs.Common.{common_steps, nat_tests}
use Rattle.hash_bloom.proofs.Lemmas.{word_read, arith}
use Rattle.hash_bloom.proofs.file.read_words.Goals as goal

pub loop-preserved : goal.loop-preserved
loop-preserved g c = grind (arith, nat_tests, common_steps, word_read)
