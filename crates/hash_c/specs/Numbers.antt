-- Numbers under a key in halves.
use Rattle.std.specs.Prelude.{ℕ, ◌≡◌, ◌<◌, List, length, slice_index}
use Rattle.hash_kinds.specs.Wide.{both}
use Rattle.hash_map_keys.specs.Numbers.{number_hash}
use Rattle.hash_c.specs.declared.numbers.NumberKey.{NumberKey}

-- the hash at the key
abbrev pub hash_at_key : NumberKey → ℕ → ℕ
hash_at_key key number =
    number_hash (both (key.multiplier_high, key.multiplier_low)) (both (key.addend_high, key.addend_low)) number

-- hash i is that of number i
abbrev pub AreNumberHashes : NumberKey → (numbers hashes : List ℕ) → Type 0
AreNumberHashes key numbers hashes = (i : ℕ) → i < length hashes → slice_index hashes i ≡ hash_at_key key (slice_index numbers i)
