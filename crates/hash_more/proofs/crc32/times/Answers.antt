use Rattle.hash_more.proofs.Crc32Common.{◌≡◌, ap, ◌∙◌, arith}
use Rattle.hash_more.proofs.Crc32Products.{product, product_is_power}
use Rattle.hash_more.proofs.crc32.times.Goals as goal

pub returns : goal.returns
returns g c k is =
    let p = g.P.Polynomial.POLYNOMIAL in
    let all : c.loop-place.place ≡ 32 = omega arith in
    c.loop-place.invariant ∙ ap (λ n. product p n c.args.left c.args.right) all
    ∙ product_is_power p k c.args.left c.args.right (omega arith) (omega arith) is
