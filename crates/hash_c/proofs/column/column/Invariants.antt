use Rattle.hash_c.proofs.Common.{◌≡◌, ◌<◌, ℕ, map, slice_index, text_at}
use Rattle.hash_c.proofs.column.column.Given as goal

-- the hashes before i are written
abbrev pub invariant-loop-i : goal.invariant-loop-i
invariant-loop-i g l =
    (k : ℕ) → k < l.i → slice_index l.hashes k ≡ g.H.Piecewise.hash_of (text_at l.bytes (map g.O.Offset.number l.offsets) k)
