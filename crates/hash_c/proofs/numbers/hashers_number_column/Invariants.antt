use Rattle.hash_c.proofs.Common.{◌≡◌, ◌<◌, ℕ, slice_index}
use Rattle.hash_map_keys.specs.Numbers.{number_hash}
use Rattle.hash_c.proofs.numbers.hashers_number_column.Given as goal

-- the hashes before i are written
abbrev pub invariant-loop-i : goal.invariant-loop-i
invariant-loop-i l = (k : ℕ) → k < l.i → slice_index l.hashes k ≡ number_hash l.multiplier l.addend (slice_index l.numbers k)
