use Rattle.hash_fx.proofs.PiecesLemmas.{fx32_pieces-differ, fx64_pieces-differ}
use Rattle.hash_theorems.proofs.fx.pieces.one_changed_byte_shows_fx.Goals as goal

pub returns : goal.returns
returns c = record { at_64 = fx64_pieces-differ; at_32 = fx32_pieces-differ }
