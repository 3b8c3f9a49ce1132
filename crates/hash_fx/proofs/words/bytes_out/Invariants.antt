use Rattle.hash_fx.proofs.Common.{◌^◌, fold, rev_source, iter_rest, Undoing}
use Rattle.hash_fx.proofs.words.bytes_out.Given as goal

abbrev pub invariant-loop-byte : goal.invariant-loop-byte
invariant-loop-byte g l =
    let word = g.W.FxWord in
    let number = g.W.Word.number in
    Undoing (fold word.step) (2 ^ word.bits) (number l.initial.h) (number l.h) (iter_rest (rev_source l.byte-iterator)) l.fn.bytes
