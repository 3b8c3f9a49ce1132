use Rattle.std.proofs.lemmas.Grind.{common_steps}
use Rattle.std.proofs.lemmas.Bool.Decides.{nat_tests}
use Rattle.hash_map_keys.proofs.Common.{arith}
use Rattle.hash_map_keys.proofs.Shares.{rest_none, rest_some}
use Rattle.hash_map_keys.proofs.hasher.behind_all.Goals as goal

pub returns-in-Some : goal.returns-in-Some
returns-in-Some c = grind (arith, nat_tests, common_steps, rest_some)

pub returns-in-None : goal.returns-in-None
returns-in-None c = grind (arith, nat_tests, common_steps, rest_none)
