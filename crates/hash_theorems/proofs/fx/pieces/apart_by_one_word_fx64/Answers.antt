use Rattle.hash_theorems.proofs.FxCommon.{common_steps, nat_tests, arith}
use Rattle.hash_fx.proofs.PiecesLemmas.{fx64_words-differ}
use Rattle.hash_theorems.proofs.fx.pieces.apart_by_one_word_fx64.Goals as goal

pub returns-clause-differ : goal.returns-clause-differ
returns-clause-differ c = grind (arith, nat_tests, common_steps, fx64_words-differ)
