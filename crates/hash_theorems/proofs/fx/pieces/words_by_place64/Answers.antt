use Rattle.hash_theorems.proofs.ByPlace.{eights64, four64, bytes64, count64}
use Rattle.hash_theorems.proofs.fx.pieces.words_by_place64.Goals as goal

pub returns : goal.returns
returns c = record { eights = eights64; four = four64; bytes = bytes64; count = count64 }
