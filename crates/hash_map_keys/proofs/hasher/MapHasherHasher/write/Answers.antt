use Rattle.std.proofs.lemmas.Grind.{common_steps}
use Rattle.std.proofs.lemmas.Bool.Decides.{nat_tests}
use Rattle.hash_map_keys.proofs.Common.{arith}
use Rattle.hash_map_keys.proofs.Shares.{all_part}
use Rattle.hash_map_keys.proofs.hasher.MapHasherHasher.write.Goals as goal

pub returns-then-bytes-saturating_sub : goal.returns-then-bytes-saturating_sub
returns-then-bytes-saturating_sub c = grind (arith, nat_tests, common_steps, all_part)
