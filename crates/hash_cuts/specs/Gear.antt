-- The gear hash (W. Xia and others, "Ddelta: A deduplication-inspired fast delta compression approach", 2014), which rolls over a text.
use Rattle.std.specs.Prelude.{ℕ, ◌≡◌, ◌<◌, ◌+◌, ◌-◌, ◌*◌, ◌%◌, ◌^◌, List, [], ◌∷◌, take, drop, slice_index}
use Rattle.hashers.specs.Recurrence.{recurrence}
use Rattle.hashers.specs.Spooky.{spooky}

-- the number of each byte: its SpookyHash under two seeds
unfoldable pub gear : ℕ → ℕ → ℕ → ℕ
gear seed1 seed2 byte = (spooky seed1 seed2 (byte ∷ [])).0

-- the numbers of all bytes
abbrev pub AreNumbers : ℕ → ℕ → List ℕ → Type 0
AreNumbers seed1 seed2 numbers = (byte : ℕ) → byte < 256 → slice_index numbers byte ≡ gear seed1 seed2 byte

-- one byte
abbrev pub gear_step : (ℕ → ℕ) → ℕ → ℕ → ℕ
gear_step number h byte = (2 * h + number byte) % 2 ^ 64

-- the hash of a text
abbrev pub gear_of : (ℕ → ℕ) → List ℕ → ℕ
gear_of number text = recurrence (gear_step number) 0 text

-- the hash at a place of a text: that of the 64 bytes before it
abbrev pub gear_at : (ℕ → ℕ) → List ℕ → ℕ → ℕ
gear_at number text n = gear_of number (take 64 (drop (n - 64) text))
