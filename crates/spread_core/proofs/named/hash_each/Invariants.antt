use Rattle.spread_core.proofs.Common.{ℕ, [], ◌≡◌, ◌<◌, get_or, IsText}
use Rattle.spread_core.proofs.named.hash_each.Given as goal

-- the hashes of the keys so far
abbrev pub invariant-loop-i : goal.invariant-loop-i
invariant-loop-i g l = record {
  hashed : (k : ℕ) → k < l.i → get_or l.hashes k 0 ≡ g.H.Piecewise.hash_of (get_or l.keys.texts k []);
  texts : (k : ℕ) → k < l.i → IsText (get_or l.keys.texts k []);
}
