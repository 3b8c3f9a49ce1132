use Rattle.hash_xxh3.proofs.Common.{◌≡◌, ◌<◌, ◌%◌, take, fold, pair_in}
use Rattle.hash_xxh3.proofs.long.stripes_by_two.Given as goal

abbrev pub invariant-loop-pair : goal.invariant-loop-pair
invariant-loop-pair l =
    (l.lanes ≡ fold (pair_in l.secret) l.initial.lanes (take l.pair-index l.pairs)) × (l.lanes.stripe < 16) × (l.lanes.stripe % 2 ≡ 0)
