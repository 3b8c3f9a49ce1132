use Rattle.hash_fx.proofs.PiecesLemmas.{fx32_words-differ, fx64_words-differ}
use Rattle.hash_theorems.proofs.fx.pieces.one_changed_word_shows_fx.Goals as goal

pub returns : goal.returns
returns c = record { at_64 = fx64_words-differ; at_32 = fx32_words-differ }
