use Rattle.hash_more.proofs.Crc32Common.{refl, ieee, castagnoli}
use Rattle.hash_more.proofs.Crc32Endings.{one-ending}
use Rattle.hash_more.proofs.crc32.crcs_are_even.Goals as goal

pub returns : goal.returns
returns c = record { crc32 = one-ending ieee refl; crc32c = one-ending castagnoli refl }
