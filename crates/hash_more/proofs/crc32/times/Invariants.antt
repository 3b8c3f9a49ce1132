use Rattle.hash_more.proofs.Crc32Common.{◌≡◌}
use Rattle.hash_more.proofs.Crc32Products.{product}
use Rattle.hash_more.proofs.crc32.times.Given as goal

abbrev pub invariant-loop-place : goal.invariant-loop-place
invariant-loop-place g l = l.product ≡ product g.P.Polynomial.POLYNOMIAL l.place l.left l.right
