use Rattle.hash_fx.proofs.Common.{fx64, words64}
use Rattle.hash_fx.proofs.WholePieces.{IsAt}
use Rattle.hash_fx.proofs.pieces.run_words.Given as goal

abbrev pub invariant-loop-piece : goal.invariant-loop-piece
invariant-loop-piece g l = IsAt (λ s text. fx64 s (words64 text)) 8 l.initial.h l.h l.piece-index l.pieces
