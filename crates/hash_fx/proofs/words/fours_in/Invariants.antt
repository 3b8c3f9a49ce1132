use Rattle.hash_fx.proofs.Common.{◌≡◌, fold, map, take, le}
use Rattle.hash_fx.proofs.words.fours_in.Given as goal

abbrev pub invariant-loop-four : goal.invariant-loop-four
invariant-loop-four g l =
    let word = g.W.FxWord in
    let number = g.W.Word.number in
    number l.h ≡ fold word.step (number l.initial.h) (map le (take l.four-index l.fours))
