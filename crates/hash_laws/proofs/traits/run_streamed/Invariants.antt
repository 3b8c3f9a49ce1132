use Rattle.hash_laws.specs.Common.{ℕ, ◌≡◌, ◌<◌, List, ◌++◌, take, IsText, joined}
use Rattle.hash_laws.proofs.traits.run_streamed.Given as goal

-- the pieces so far count as one
abbrev pub invariant-loop-more : goal.invariant-loop-more
invariant-loop-more g l =
    let H = g.H.Piecewise in
    let so_far = joined (take l.more-index l.pieces) in
    record {
      none : l.more-index ≡ 0 → l.h ≡ l.initial.h;
      in_range : 0 < l.more-index → H.in_range (H.state l.initial.h);
      stands : (from text : List ℕ) → g.H.Streamed.stands_at l.initial.h from text → g.H.Streamed.stands_at l.h from (text ++ so_far);
      one : H.in_range (H.state l.initial.h) → H.state l.h ≡ H.after (H.state l.initial.h) so_far;
      text : IsText so_far;
    }
