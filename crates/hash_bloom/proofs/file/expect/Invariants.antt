use Rattle.hash_bloom.proofs.Common.{take, Consumes}
use Rattle.hash_bloom.proofs.file.expect.Given as goal

abbrev pub invariant-loop-byte : goal.invariant-loop-byte
invariant-loop-byte g l = Consumes (g.R.Read.remaining l.initial.r) (g.R.Read.remaining l.r) (take l.byte-index l.fn.text)
