use Rattle.hash_bloom.proofs.Common.{◌≡◌, ◌++◌, take, fnv1a64_basis, fnv1a64_from, bytes_of}
use Rattle.hash_bloom.proofs.file.seal.Given as goal

abbrev pub invariant-loop-word : goal.invariant-loop-word
invariant-loop-word l = l.hasher ≡ fnv1a64_from fnv1a64_basis (l.fn.header ++ bytes_of (take l.word-index l.fn.words))
