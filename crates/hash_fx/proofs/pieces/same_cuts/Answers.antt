use Rattle.hash_fx.proofs.Common.{◌≡◌, ◌<◌, length, arith}
use Rattle.std.proofs.Common.{true, false}
use Rattle.std.proofs.lemmas.Bool.{both_ways}
use Rattle.hash_fx.proofs.CutsLemmas.{no_piece, SameCuts-at, CutsAgree-more}
use Rattle.hash_fx.proofs.pieces.same_cuts.Goals as goal

pub returns-then-not-same_length-clause-exactly : goal.returns-then-not-same_length-clause-exactly
returns-then-not-same_length-clause-exactly c =
    let x = c.args.x.now in
    let y = c.args.y.now in (
      (λ (e : false ≡ true). cc),
      λ same. absurd (both_ways c.same_length.result c.if-not-same_length.true
          (c.same_length.ensures.exactly.1 (SameCuts-at x y c.loop-i.i no_piece same c.loop-i-test.true))),
    )

pub loop-i-preserved : goal.loop-i-preserved
loop-i-preserved c =
    let x = c.args.x.now in
    let y = c.args.y.now in
    let also : c.loop-i.i < length y = omega (arith, c.if-x-y.false, c.loop-i-test.true) in
    CutsAgree-more x y c.loop-i.i no_piece c.loop-i-test.true also (c.same_length.ensures.exactly.0 c.if-not-same_length.false)
    c.same_length.ensures.first c.same_length.ensures.second c.loop-i.invariant
