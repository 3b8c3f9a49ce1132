use Rattle.std.specs.Iterator.Adapters.{rev_source}
use Rattle.std.specs.Slice.Iter.{iter_rest}
use Rattle.hashers.proofs.ByteLaws.{Undoing}
use Rattle.hash_uses.specs.ByteSum.{byte_sum_from}
use Rattle.hash_uses.proofs.byte_sum.ByteSumUndo.unwrite.Given as goal

abbrev pub invariant-loop-byte : goal.invariant-loop-byte
invariant-loop-byte l =
    Undoing byte_sum_from 256 l.initial.self-inside.sum l.self-inside.sum (iter_rest (rev_source l.byte-iterator)) l.piece
