use Rattle.hash_map_keys.proofs.Common.{length, drop, share, ◌%◌, ◌*◌, ◌+◌, ◌-◌, ◌<◌, ◌^◌, ◌≡◌, ◌≤◌}
use Rattle.hash_map_keys.proofs.hasher.by_words.Given as goal

abbrev pub invariant-loop-word : goal.invariant-loop-word
invariant-loop-word l = record {
  some : l.fn.words ≤ l.at;
  small : l.sum < 2 ^ 128;
  behind : l.rest ≡ drop (8 * (l.at - l.fn.words)) l.bytes;
  room : 8 * (l.at - l.fn.words) + length l.rest ≡ length l.bytes;
  there : (l.sum + share l.multipliers (8 * l.at) l.rest) % 2 ^ 128 ≡ (l.fn.start + share l.multipliers (8 * l.fn.words) l.bytes) % 2 ^ 128;
}

abbrev pub decreases-loop-word : goal.decreases-loop-word
decreases-loop-word l = length l.rest
