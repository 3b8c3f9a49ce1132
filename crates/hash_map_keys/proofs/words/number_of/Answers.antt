use Rattle.std.proofs.lemmas.Grind.{common_steps}
use Rattle.std.proofs.lemmas.Bool.Decides.{nat_tests}
use Rattle.std.proofs.Common.{rules}
use Rattle.hash_map_keys.proofs.Common.{IsText-from_slice, arith}
use Rattle.hash_map_keys.proofs.Fours.{by_fours}
use Rattle.hash_map_keys.proofs.words.number_of.Goals as goal

pub returns-in-Some-Some-clause-value : goal.returns-in-Some-Some-clause-value
returns-in-Some-Some-clause-value c = search (rules, by_fours, IsText-from_slice)

pub returns-in-Some-Some-clause-small : goal.returns-in-Some-Some-clause-small
returns-in-Some-Some-clause-small c = grind (arith, nat_tests, common_steps, returns-in-Some-Some-clause-value c)
