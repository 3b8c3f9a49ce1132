use Rattle.hash_c.proofs.Common.{◌∙◌, ap, set, get_or, arith}
use Rattle.hash_c.proofs.LineLemmas.{laid_next}
use Rattle.hash_c.proofs.kinds.hashers_name.Goals as goal

pub loop-i-preserved : goal.loop-i-preserved
loop-i-preserved c =
    let told = c.name_of-told.result.now in
    ap (λ l. set l c.loop-i.i (get_or told c.loop-i.i 0)) c.loop-i.invariant
    ∙ laid_next told c.args.name.now c.loop-i.i
    (omega (arith, c.min-i-end.ensures, c.loop-i-test.true)) (omega (arith, c.min-i-end.ensures, c.loop-i-test.true))
