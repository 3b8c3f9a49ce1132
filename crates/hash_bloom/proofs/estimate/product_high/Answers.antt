use Rattle.hash_bloom.proofs.Common.{ℕ, ◌≡◌, ◌+◌, ◌*◌, ◌/◌, ◌%◌, ◌^◌, arith}
use Rattle.hash_bloom.proofs.estimate.product_high.Goals as goal

-- the product of two numbers of two digits
expanded : (t a b c d x y : ℕ) → x ≡ t * a + b → y ≡ t * c + d → x * y ≡ t * t * (a * c) + t * (a * d + b * c) + b * d
expanded t a b c d x y e f = rw (e, f) (grind arith)

pub returns : goal.returns
returns c =
    let x = c.args.one in
    let y = c.args.other in
    let t = 2 ^ 64 in
    let e = expanded t (x / t) (x % t) (y / t) (y % t) x y (omega arith) (omega arith) in
    omega (arith, e)
