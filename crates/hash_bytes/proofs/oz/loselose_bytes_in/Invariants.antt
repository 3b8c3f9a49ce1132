use Rattle.hash_bytes.proofs.Common.{◌≡◌, take, loselose_from}
use Rattle.hash_bytes.proofs.oz.loselose_bytes_in.Given as goal

abbrev pub invariant-loop-byte : goal.invariant-loop-byte
invariant-loop-byte l = l.h ≡ loselose_from l.initial.h (take l.byte-index l.bytes)
