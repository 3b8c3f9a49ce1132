use Rattle.hash_theorems.proofs.FxCommon.{◌≡◌, ◌≤◌, map, take, differences}
use Rattle.hash_theorems.proofs.fx.differing.differing_words.Given as goal

-- the places so far
abbrev pub invariant-loop-i : goal.invariant-loop-i
invariant-loop-i g l = record {
  value : l.count ≡ differences (map g.B.WordBytes.word (take l.i l.x)) (map g.B.WordBytes.word (take l.i l.y));
  few : l.count ≤ l.i;
}
