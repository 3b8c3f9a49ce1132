use Rattle.hash_theorems.proofs.FxCommon.{◌≡◌, ◌≤◌, take, differences}
use Rattle.hash_theorems.proofs.WordTests.{words_of}
use Rattle.hash_theorems.proofs.fx.pieces.apart_by_one_word.Given as goal

-- the words so far
abbrev pub invariant-loop-i : goal.invariant-loop-i
invariant-loop-i g l =
    let words = g.W.FxSplit.words in
    record {
      so_far : l.apart ≡ differences (words_of words (take l.i l.x)) (words_of words (take l.i l.y));
      few : l.apart ≤ 1;
    }
