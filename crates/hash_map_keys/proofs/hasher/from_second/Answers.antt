use Rattle.std.proofs.lemmas.Grind.{common_steps}
use Rattle.std.proofs.lemmas.Bool.Decides.{nat_tests}
use Rattle.hash_map_keys.proofs.Common.{arith}
use Rattle.hash_map_keys.proofs.Shares.{last_two, word_more}
use Rattle.hash_map_keys.proofs.hasher.from_second.Goals as goal

pub returns-then-more-le8 : goal.returns-then-more-le8
returns-then-more-le8 c = grind (arith, nat_tests, common_steps, last_two)

pub returns-else-more-le8 : goal.returns-else-more-le8
returns-else-more-le8 c = grind (arith, nat_tests, common_steps, word_more)
