use Rattle.hash_fx.proofs.Common.{◌^◌, fold, map, rev_source, iter_rest, le, Undoing}
use Rattle.hash_fx.proofs.words.fours_out.Given as goal

abbrev pub invariant-loop-four : goal.invariant-loop-four
invariant-loop-four g l =
    let word = g.W.FxWord in
    let number = g.W.Word.number in
    Undoing (fold word.step) (2 ^ word.bits) (number l.initial.h) (number l.h)
    (map le (iter_rest (rev_source l.four-iterator))) (map le l.fn.fours)
