use Rattle.hash_laws.specs.Common.{◌≡◌, drop, fold, texts}
use Rattle.hash_laws.proofs.traits.run_pieces.Given as goal

abbrev pub invariant-loop-piece : goal.invariant-loop-piece
invariant-loop-piece g l =
    let H = g.H.Piecewise in
    fold H.after (H.state l.h) (texts (drop l.piece-index l.pieces)) ≡ fold H.after (H.state l.initial.h) (texts l.pieces)
