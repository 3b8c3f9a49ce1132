use Rattle.hash_theorems.proofs.ByPlace.{fours32, bytes32, count32}
use Rattle.hash_theorems.proofs.fx.pieces.words_by_place32.Goals as goal

pub returns : goal.returns
returns c = record { fours = fours32; bytes = bytes32; count = count32 }
