use Rattle.hash_theorems.proofs.FxCommon.{arith, both_ways, eq-eqb, eqb-true, common_steps, nat_tests, rules}
use Rattle.hash_fx.proofs.CutsLemmas.{SameCuts-at, no_piece}
use Rattle.hash_theorems.proofs.WordTests.{DifferByOneWord-iff, at-the-end, more-words, too-many}
use Rattle.hash_theorems.proofs.fx.pieces.apart_by_one_word.Goals as goal

pub differing-more-requires : goal.differing-more-requires
differing-more-requires g c = grind (arith, nat_tests, common_steps, SameCuts-at, no_piece)

-- a second word that differs
pub returns-then-more-apart-clause-exactly : goal.returns-then-more-apart-clause-exactly
returns-then-more-apart-clause-exactly g c = grind (arith, nat_tests, common_steps, more-words, no_piece, too-many)

pub loop-i-preserved : goal.loop-i-preserved
loop-i-preserved g c = search (rules, more-words, no_piece)

pub returns-clause-exactly : goal.returns-clause-exactly
returns-clause-exactly g c =
    let words = g.W.FxSplit.words in
    let long = g.met.W.FxSplit.words_length in
    grind (arith, nat_tests, common_steps, at-the-end, DifferByOneWord-iff, eqb-true, eq-eqb)

pub returns-then-not-same_cuts-clause-exactly : goal.returns-then-not-same_cuts-clause-exactly
returns-then-not-same_cuts-clause-exactly g c = grind (arith, nat_tests, common_steps, both_ways)
