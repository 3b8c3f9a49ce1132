use Rattle.hash_xxh3.proofs.Common.{◌≡◌, ◌*◌, fold, length, range_with_len, length_word, add_nth}
use Rattle.hash_xxh3.proofs.middle.first_pieces.Given as goal

abbrev pub invariant-loop-i : goal.invariant-loop-i
invariant-loop-i l =
    l.sum ≡ fold (λ sum i. add_nth l.seed l.text sum i (16 * i)) (length_word (length l.text)) (range_with_len 0 l.i)
