use Rattle.std.proofs.lemmas.Grind.{common_steps}
use Rattle.std.proofs.lemmas.Bool.Decides.{nat_tests}
use Rattle.hash_map_keys.proofs.Common.{arith, le_bytes-halves}
use Rattle.hash_map_keys.proofs.Shares.{two_writes}
use Rattle.hash_map_keys.proofs.hasher.MapHasherHasher.write_u128.Goals as goal

pub returns : goal.returns
returns c = grind (arith, nat_tests, common_steps, two_writes, le_bytes-halves)
