use Rattle.hash_map_keys.proofs.Common.{ℕ, slice_index, ◌<◌, ◌≤◌}
use Rattle.hash_map_keys.proofs.keys.MapKeys.new.Given as goal

-- no multiplier is 0
abbrev pub invariant-loop-at : goal.invariant-loop-at
invariant-loop-at g l = (j : ℕ) → j < 17 → 1 ≤ slice_index l.multipliers j
