use Rattle.hash_bytes.proofs.Common.{◌≡◌, take, passthrough_from}
use Rattle.hash_bytes.proofs.null.append_few.Given as goal

abbrev pub invariant-loop-byte : goal.invariant-loop-byte
invariant-loop-byte l = l.state ≡ passthrough_from l.initial.state (take l.byte-index l.bytes)
