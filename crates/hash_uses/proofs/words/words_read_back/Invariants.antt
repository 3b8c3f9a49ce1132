use Rattle.std.proofs.Common.{ℕ, ◌<◌, List, Bor, get_or}
use Rattle.hash_bloom.specs.Filter.{Passes}
use Rattle.hash_uses.proofs.words.words_read_back.Given as goal

-- the words so far pass
abbrev pub invariant-loop-word : goal.invariant-loop-word
invariant-loop-word g l =
    (k : ℕ) (d : Bor (List ℕ)) → k < l.word-index
    → Passes g.F.Piecewise.hash_of g.G.Piecewise.hash_of l.filter (get_or l.words k d).now
