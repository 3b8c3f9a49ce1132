use Rattle.hash_fx.proofs.Common.{refl, sym}
use Rattle.hash_fx.specs.FxLaws.{fx32_nothing}
use Rattle.hash_fx.proofs.WholePieces.{at_more32}
use Rattle.hash_fx.proofs.pieces.run_words32.Goals as goal

pub loop-part-init : goal.loop-part-init
loop-part-init c = record { there = sym (fx32_nothing c.args.h.now); whole = λ _. refl }

pub loop-part-preserved : goal.loop-part-preserved
loop-part-preserved c =
    at_more32 c.args.h.now c.loop-part.h c.write.new.self c.loop-part.part-index c.args.pieces.now c.requires c.loop-part-test.true
    c.write.ensures.state c.loop-part.invariant
