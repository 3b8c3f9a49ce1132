use Rattle.std.proofs.lemmas.Grind.{common_steps}
use Rattle.std.proofs.lemmas.Bool.Decides.{nat_tests}
use Rattle.hash_map_keys.proofs.Common.{arith}
use Rattle.hash_map_keys.proofs.Pieces.{of_bytes}
use Rattle.hash_map_keys.proofs.hasher.map_hash.Goals as goal

pub returns : goal.returns
returns c = grind (arith, nat_tests, common_steps, of_bytes)
