use Rattle.std.specs.Iterator.Adapters.{rev_source}
use Rattle.std.specs.Slice.Iter.{iter_rest}
use Rattle.hash_laws.specs.ByteLaws.{Undoing}
use Rattle.hash_laws.proofs.rules.byte_hasher.ByteHasherUndo.unwrite.Given as goal

abbrev pub invariant-loop-byte : goal.invariant-loop-byte
invariant-loop-byte g l =
    let steps = g.R.StepRule in
    Undoing g.R.ByteRule.after steps.bound (steps.number l.initial.self-inside.state) (steps.number l.self-inside.state)
    (iter_rest (rev_source l.byte-iterator)) l.piece
