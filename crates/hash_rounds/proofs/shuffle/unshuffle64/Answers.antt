use Rattle.hash_rounds.proofs.Common.{rules, ap, ◌∙◌, arith, shuffle}
use Rattle.hash_rounds.proofs.ShuffleLemmas.{IsMoved, unshuffle_by, shuffle-unshuffle}
use Rattle.hash_rounds.proofs.shuffle.unshuffle64.Goals as goal

pub returns : goal.returns
unfolding IsMoved
returns c =
    let value = unshuffle_by c.args.x _ _ _ _ c.swap_halves.result (omega arith) (omega arith) c.exchange-pairs.ensures
    c.exchange-nibbles.ensures c.exchange-bytes.ensures c.exchange-halves.ensures (search rules) in
    record { value = value; undone = ap shuffle value ∙ shuffle-unshuffle c.args.x (omega arith) }
