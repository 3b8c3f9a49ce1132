use Rattle.hash_xxh3.proofs.Common.{◌≡◌, ◌-◌, arith}
use Rattle.hash_xxh3.proofs.middle.other_pieces.Goals as goal

pub returns : goal.returns
returns c =
    let seven : c.loop-i.i - 8 ≡ 7 = omega (arith, c.loop-i.auto.i-end, c.loop-i-test.false) in
    rw seven at c.loop-i.invariant
