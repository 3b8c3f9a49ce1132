use Rattle.hash_laws.specs.Common.{◌≡◌, ◌↔◌, drop, fold, texts}
use Rattle.hash_laws.proofs.traits.run_pair.Given as goal

abbrev pub invariant-loop-piece : goal.invariant-loop-piece
invariant-loop-piece g l =
    let H = g.H.Piecewise in
    record {
      first : fold H.after (H.state l.a) (texts (drop l.piece-index l.pieces)) ≡ fold H.after (H.state l.initial.a) (texts l.pieces);
      second : fold H.after (H.state l.b) (texts (drop l.piece-index l.pieces)) ≡ fold H.after (H.state l.initial.b) (texts l.pieces);
      alike : (H.answer (H.state l.a) ≡ H.answer (H.state l.b)) ↔ (H.answer (H.state l.initial.a) ≡ H.answer (H.state l.initial.b));
    }
