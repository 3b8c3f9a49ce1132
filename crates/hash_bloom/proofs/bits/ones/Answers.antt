use Rattle.hash_bloom.proofs.Common.{common_steps, nat_tests}
use Rattle.hash_bloom.proofs.Lemmas.{◌≡◌, count_set, ones_of_words, count_set-le, arith}
use Rattle.hash_bloom.proofs.bits.ones.Goals as goal

is_count : (c : goal.After-ones_of_words) → c.ones_of_words.result ≡ count_set c.args.words.now c.args.bits
is_count c = grind (arith, nat_tests, common_steps, ones_of_words)

pub overflow_cast-result : goal.overflow_cast-result
overflow_cast-result c = grind (arith, nat_tests, common_steps, is_count c, count_set-le c.args.words.now c.args.bits)

pub returns : goal.returns
returns c = is_count c
