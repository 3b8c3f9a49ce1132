use Rattle.hash_words.proofs.Common.{◌≡◌, map, take, length, le}
use Rattle.hash_words.proofs.words.le_words.Given as goal

abbrev pub invariant-loop-i : goal.invariant-loop-i
invariant-loop-i g l = (length l.words ≡ g.row.N) × (take l.i l.words ≡ map le (take l.i l.pieces))
