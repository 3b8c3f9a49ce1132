use Rattle.hash_fx.proofs.Common.{fx32, words32}
use Rattle.hash_fx.proofs.WholePieces.{IsAt}
use Rattle.hash_fx.proofs.pieces.run_words32.Given as goal

abbrev pub invariant-loop-part : goal.invariant-loop-part
invariant-loop-part l = IsAt (λ s text. fx32 s (words32 text)) 4 l.initial.h l.h l.part-index l.pieces
