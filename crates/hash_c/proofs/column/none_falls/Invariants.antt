use Rattle.hash_c.proofs.Common.{◌≡◌, ◌↔◌, ◌≤◌, map, slice_index, NoneFalls}
use Rattle.hash_c.proofs.column.none_falls.Given as goal

-- so far no more falls are counted than there were steps, and none exactly where none fell
abbrev pub invariant-loop-i : goal.invariant-loop-i
invariant-loop-i g l =
    let places = map g.O.Offset.number l.offsets in
    (l.from ≡ slice_index places l.i) × (l.falls ≤ l.i) × ((l.falls ≡ 0) ↔ NoneFalls l.i places)
