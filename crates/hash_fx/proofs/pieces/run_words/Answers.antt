use Rattle.hash_fx.proofs.Common.{refl, sym}
use Rattle.hash_fx.specs.FxLaws.{fx64_nothing}
use Rattle.hash_fx.proofs.WholePieces.{at_more64}
use Rattle.hash_fx.proofs.pieces.run_words.Goals as goal

pub loop-piece-init : goal.loop-piece-init
loop-piece-init g c = record { there = sym (fx64_nothing c.args.h.now); whole = λ _. refl }

pub loop-piece-preserved : goal.loop-piece-preserved
loop-piece-preserved g c =
    at_more64 c.args.h.now c.loop-piece.h c.write.new.self c.loop-piece.piece-index c.args.pieces.now c.requires c.loop-piece-test.true
    c.write.ensures.state c.loop-piece.invariant
