use Rattle.hash_bloom.proofs.Common.{◌++◌, take, Appends, bytes_of}
use Rattle.hash_bloom.proofs.file.write_sealed.Given as goal

abbrev pub invariant-loop-word : goal.invariant-loop-word
invariant-loop-word g l =
    Appends (g.W.Write.contents l.fn.w) (g.W.Write.contents l.w) (l.fn.line ++ bytes_of (take l.word-index l.fn.words))
