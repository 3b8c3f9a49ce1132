use Rattle.hash_theorems.proofs.BlockCommon.{◌≡◌, fold, reverse, rev_source, iter_rest, byte_out}
use Rattle.hash_theorems.proofs.blocks.xxh32.bytes_out.Given as goal

abbrev pub invariant-loop-byte : goal.invariant-loop-byte
invariant-loop-byte l =
    fold byte_out l.before (reverse (iter_rest (rev_source l.byte-iterator))) ≡ fold byte_out l.h (reverse l.bytes)
