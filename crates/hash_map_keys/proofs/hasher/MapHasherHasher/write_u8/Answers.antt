use Rattle.std.proofs.lemmas.Grind.{common_steps}
use Rattle.std.proofs.lemmas.Bool.Decides.{nat_tests}
use Rattle.hash_map_keys.proofs.Common.{arith}
use Rattle.hash_map_keys.proofs.Shares.{one_byte}
use Rattle.hash_map_keys.proofs.hasher.MapHasherHasher.write_u8.Goals as goal

pub returns : goal.returns
returns c = grind (arith, nat_tests, common_steps, one_byte)
