use Rattle.std.proofs.lemmas.Grind.{common_steps}
use Rattle.std.proofs.lemmas.Bool.Decides.{nat_tests}
use Rattle.hash_map_keys.proofs.Common.{arith, eqb-true, nil_from_length}
use Rattle.hash_map_keys.proofs.Shares.{last_two, nothing_more, word_last, word_more}
use Rattle.hash_map_keys.proofs.hasher.within.Goals as goal

pub returns-in-None : goal.returns-in-None
returns-in-None c = grind (arith, nat_tests, common_steps, word_last)

pub returns-then-is_empty : goal.returns-then-is_empty
returns-then-is_empty c = grind (arith, nat_tests, common_steps, nil_from_length, eqb-true, nothing_more, word_more)

pub returns-then-more-le8 : goal.returns-then-more-le8
returns-then-more-le8 c = grind (arith, nat_tests, common_steps, last_two)

pub returns-else-more-le8 : goal.returns-else-more-le8
returns-else-more-le8 c = grind (arith, nat_tests, common_steps, word_more)
