use Rattle.hash_rounds.proofs.Common.{rules, ap, ◌∙◌, arith, unshuffle}
use Rattle.hash_rounds.proofs.ShuffleLemmas.{IsMoved, shuffle_by, unshuffle-shuffle}
use Rattle.hash_rounds.proofs.shuffle.shuffle64.Goals as goal

pub returns : goal.returns
unfolding IsMoved
returns c =
    let value = shuffle_by c.args.x _ _ _ _ c.exchange.result (omega arith) (omega arith) (search rules) c.exchange-bytes.ensures
    c.exchange-nibbles.ensures c.exchange-pairs.ensures c.exchange.ensures in
    record { value = value; undone = ap unshuffle value ∙ unshuffle-shuffle c.args.x (omega arith) }
