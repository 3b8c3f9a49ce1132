-- Texts that end in more zeros than others.
use Rattle.std.specs.Prelude.{◌≡◌, ◌≢◌, ℕ, ◌<◌, ◌^◌, List, length}
use Rattle.hash_jenkins.specs.Filled.{zero_filled}
use Rattle.hash_jenkins.specs.Spooky.{short_words}

-- y is x and at least one zero, and below 192 bytes
abbrev pub AddsZeros : List ℕ → List ℕ → Type 0
AddsZeros x y = (length x < length y) × (length y < 192) × (y ≡ zero_filled (length y) x)

-- the four words differ under all seeds
abbrev pub HaveOtherWords : List ℕ → List ℕ → Type 0
HaveOtherWords x y = (seed1 seed2 : ℕ) → seed1 < 2 ^ 64 → seed2 < 2 ^ 64 → short_words seed1 seed2 x ≢ short_words seed1 seed2 y
