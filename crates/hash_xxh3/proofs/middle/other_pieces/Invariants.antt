use Rattle.hash_xxh3.proofs.Common.{◌≡◌, ◌*◌, ◌-◌, fold, range_with_len, add_nth}
use Rattle.hash_xxh3.proofs.middle.other_pieces.Given as goal

abbrev pub invariant-loop-i : goal.invariant-loop-i
invariant-loop-i l =
    l.sum ≡ fold (λ sum i. add_nth l.seed l.text sum i (16 * i - 125)) l.start (range_with_len 8 (l.i - 8))
