use Rattle.hash_theorems.proofs.FxCommon.{recurrence-pieces, fx32_step, fx64_step, words32, words64}
use Rattle.hash_theorems.proofs.fx.pieces.pieces_are_their_words.Goals as goal

pub returns : goal.returns
returns c = record { at_64 = recurrence-pieces fx64_step words64; at_32 = recurrence-pieces fx32_step words32 }
