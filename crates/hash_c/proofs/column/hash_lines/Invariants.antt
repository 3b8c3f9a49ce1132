use Rattle.hash_c.proofs.Common.{◌≡◌, ◌+◌, ◌≤◌, ◌++◌, ℕ, List, length, map, laid_over, line_texts}
use Rattle.hash_c.proofs.column.hash_lines.Given as goal

-- the hashes of the lines so far are written, as far as there is room
abbrev pub invariant-loop-rest : goal.invariant-loop-rest
invariant-loop-rest g l = record {
  so_far : List (List ℕ);
  split : line_texts 10 l.bytes ≡ so_far ++ line_texts 10 l.rest;
  count : l.count ≡ length so_far;
  few : l.count + length l.rest ≤ length l.bytes;
  written : l.hashes ≡ laid_over (map g.H.Piecewise.hash_of so_far) l.initial.hashes;
}

abbrev pub decreases-loop-rest : goal.decreases-loop-rest
decreases-loop-rest g l = length l.rest
