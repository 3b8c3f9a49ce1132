use Rattle.std.proofs.Common.{rules}
use Rattle.hash_map_keys.proofs.Common.{IsText-from_slice}
use Rattle.hash_map_keys.proofs.Fours.{of_last}
use Rattle.hash_map_keys.proofs.words.number_of_last.Goals as goal

pub returns-in-Some : goal.returns-in-Some
returns-in-Some c = search (rules, of_last, IsText-from_slice)
