-- What a hasher under keys computes.
use Rattle.std.specs.Prelude.{ℕ, zero, suc, ◌+◌, ◌-◌, ◌*◌, ◌/◌, ◌%◌, ◌^◌, List, length, if◌then◌else◌, nat_le, bit_xor}
use Rattle.std.specs.Hash.FoldHasher.{folded_multiply, read_short, read_u64}
use Rattle.text_set.specs.declared.keyed.RandomKeys.{RandomKeys}
use Rattle.text_set.specs.declared.keyed.KeyedHasher.{KeyedHasher}

-- the hasher that starts from these keys
abbrev pub initial : RandomKeys → KeyedHasher
initial keys = record { state = keys.first; key = keys.second }

-- the state after the words at i and at j
abbrev pub mix : ℕ → List ℕ → ℕ → ℕ → ℕ → ℕ
mix key bytes state i j = folded_multiply (bit_xor (read_u64 bytes i) state) (bit_xor (read_u64 bytes j) key)

-- the state after the first n blocks of 16 bytes
unfoldable pub mix_blocks : ℕ → List ℕ → ℕ → ℕ → ℕ
mix_blocks key bytes state zero = state
mix_blocks key bytes state (suc n) = mix key bytes (mix_blocks key bytes state n) (16 * n) (16 * n + 8)

-- the hasher after a write: up to 8 bytes as one number, else blocks of 16 bytes, of which the last may overlap the one before it
unfoldable pub write : KeyedHasher → List ℕ → KeyedHasher
write hasher bytes =
    let n = length bytes in
    let start = (hasher.state + n) % 2 ^ 64 in
    let short = folded_multiply (bit_xor start (read_short bytes)) hasher.key in
    let long = mix hasher.key bytes (mix_blocks hasher.key bytes start ((n - 1) / 16)) (n - 16) (n - 8) in
    record { state = if nat_le n 8 then short else long; key = hasher.key }

-- the hash
abbrev pub finish : KeyedHasher → ℕ
finish hasher = hasher.state
