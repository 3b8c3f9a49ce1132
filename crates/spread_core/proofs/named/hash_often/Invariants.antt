use Rattle.spread_core.proofs.Common.{◌≡◌, All, map, IsText}
use Rattle.spread_core.proofs.named.hash_often.Given as goal

-- the hashes stay
abbrev pub invariant-again : goal.invariant-again
invariant-again g l = record {
  keys : l.hashed.keys ≡ l.fn.hashed.keys;
  hashes : l.hashed.hashes.items ≡ map g.H.Piecewise.hash_of l.hashed.keys.texts;
  texts : All IsText l.hashed.keys.texts;
}
