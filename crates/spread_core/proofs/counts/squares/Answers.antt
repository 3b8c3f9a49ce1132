use Rattle.spread_core.proofs.Common.{◌*◌, ap, arith}
use Rattle.spread_core.proofs.CountLemmas.{squares_fit}
use Rattle.spread_core.proofs.counts.squares.Goals as goal

pub overflow_add-total : goal.overflow_add-total
overflow_add-total c =
    let fit = squares_fit c.args.counts.now c.loop-count.count-index c.loop-count-test.true c.requires in
    let square = ap (λ wide. wide * wide) c.from-wide.ensures in
    omega (arith, fit, square, c.loop-count.invariant)
