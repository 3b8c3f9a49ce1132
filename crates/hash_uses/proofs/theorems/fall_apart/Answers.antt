use Rattle.std.proofs.Common.{◌≤◌, arith}
use Rattle.std.proofs.lemmas.Bool.Decides.{nat_tests}
use Rattle.spread_core.specs.Counts.{IsSpread}
use Rattle.hash_uses.proofs.theorems.fall_apart.Goals as goal

pub returns : goal.returns
returns c =
    let spread = c.in_ok-spread.spread in
    let is : IsSpread c.args.buckets c.args.hashes.now spread = c.in_ok-spread.ensures in
    let law = c.one_in_each_bucket.ensures c.args.buckets c.args.hashes.now c.requires in (
      λ few. let at_most : spread.fullest ≤ 1 = grind (arith, nat_tests, few) in
          law.0 (λ b below. omega (arith, is.has_fullest.most b below, at_most)),
      λ differ. let (b, below, reached) = is.has_fullest.reached in
          let at_most : spread.fullest ≤ 1 = omega (arith, law.1 differ b below, reached) in
          grind (arith, nat_tests, at_most),
    )
