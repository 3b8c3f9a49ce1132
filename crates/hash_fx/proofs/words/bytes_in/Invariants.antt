use Rattle.hash_fx.proofs.Common.{◌≡◌, fold, take}
use Rattle.hash_fx.proofs.words.bytes_in.Given as goal

abbrev pub invariant-loop-byte : goal.invariant-loop-byte
invariant-loop-byte g l =
    let word = g.W.FxWord in
    let number = g.W.Word.number in
    number l.h ≡ fold word.step (number l.initial.h) (take l.byte-index l.bytes)
