use Rattle.hash_bloom.proofs.Common.{◌≡◌, length, Consumes, bytes_of}
use Rattle.hash_bloom.proofs.file.read_words.Given as goal

abbrev pub invariant-loop : goal.invariant-loop
invariant-loop g l = (length l.words.items ≡ l.counter)
    × Consumes (g.R.Read.remaining l.initial.r) (g.R.Read.remaining l.r) (bytes_of l.words.items)
