use Rattle.hash_map_keys.proofs.Common.{IsText, length, share, ◌%◌, ◌+◌, ◌<◌, ◌^◌, ◌≡◌, ◌≤◌}
use Rattle.hash_map_keys.proofs.hasher.behind.Given as goal

abbrev pub invariant-loop-rest : goal.invariant-loop-rest
invariant-loop-rest l = record {
  are : IsText l.rest;
  small : l.sum < 2 ^ 128;
  room : l.at + length l.rest ≤ 128;
  there : (l.sum + share l.multipliers l.at l.rest) % 2 ^ 128 ≡ (l.fn.start + share l.multipliers l.fn.held l.fn.bytes) % 2 ^ 128;
}

abbrev pub decreases-loop-rest : goal.decreases-loop-rest
decreases-loop-rest l = length l.rest
