-- The shuffle of the 64 bits of a word in Bricolage (Pigeon's page): the halves of a word are exchanged, and then
-- the bits of the two halves of each half come in turn.
use Rattle.std.specs.Prelude.{ℕ, zero, suc, ◌+◌, ◌-◌, ◌*◌, ◌/◌, ◌%◌, ◌^◌, ◌==◌, ◌&&◌, nat_lt, nat_le, if◌then◌else◌}
use Rattle.std.specs.Int.{bit_at}

-- the number whose bit j is f j, for each j below n
unfoldable pub from_bits : (ℕ → ℕ) → ℕ → ℕ
from_bits f zero = 0
from_bits f (suc n) = f n * 2 ^ n + from_bits f n

-- the bit of a word that becomes bit j of the shuffled word: for i below 16,
-- bits 2i, 2i + 1, 32 + 2i and 33 + 2i come from 32 + i, 48 + i, i and 16 + i
abbrev pub shuffle_from : ℕ → ℕ
shuffle_from j = if nat_lt j 32 then 32 + j / 2 + 16 * (j % 2) else ((j - 32) / 2 + 16 * (j % 2))

-- the bit that bit i of a word becomes: 32 + 2i, 33 + 2i, 2i and 2i + 1 for i, 16 + i, 32 + i and 48 + i
abbrev pub shuffle_to : ℕ → ℕ
shuffle_to i = if nat_lt i 32 then 32 + 2 * (i % 16) + i / 16 else (2 * (i % 16) + (i - 32) / 16)

abbrev pub shuffle : ℕ → ℕ
shuffle x = from_bits (λ j. bit_at x (shuffle_from j)) 64

abbrev pub unshuffle : ℕ → ℕ
unshuffle x = from_bits (λ i. bit_at x (shuffle_to i)) 64

-- the place that comes to j where the bits of a mask change places with those k above
abbrev pub exchanged : ℕ → ℕ → ℕ → ℕ
exchanged mask k j =
    if bit_at mask j == 1 then j + k
    else if nat_le k j && (bit_at mask (j - k) == 1) then j - k
    else j
