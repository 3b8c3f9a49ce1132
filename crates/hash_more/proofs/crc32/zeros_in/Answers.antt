use Rattle.hash_more.proofs.Crc32Common.{◌∙◌, arith}
use Rattle.hash_more.proofs.Crc32Products.{begins, turn_odd, turn_even, ends}
use Rattle.hash_more.proofs.crc32.zeros_in.Goals as goal
use Rattle.hash_more.proofs.crc32.zeros_in.Goals.{then-rest-eq1, else-rest-eq1}

pub loop-rest-init : goal.loop-rest-init
loop-rest-init g c = begins g.P.Polynomial.POLYNOMIAL c.args.word c.args.count

pub loop-rest-preserved : goal.loop-rest-preserved
loop-rest-preserved g c =
    let p = g.P.Polynomial.POLYNOMIAL in
    elim c.if-rest-eq1.branch [
      | then-rest-eq1 w ↦ turn_odd p _ _ _ _ _ _ c.loop-rest.invariant w.if-rest-eq1.true c.times-power.ensures
          (λ k is. w.moved-is ∙ w.times-moved.ensures k is)
      | else-rest-eq1 w ↦ turn_even p _ _ _ _ _ _ c.loop-rest.invariant w.if-rest-eq1.false c.times-power.ensures w.moved-is
    ]

pub returns : goal.returns
returns g c = ends g.P.Polynomial.POLYNOMIAL _ _ _ _ c.loop-rest.invariant (omega arith)
