-- How many keys were inserted, as a filter's zeros tell it.
use Rattle.std.specs.Prelude.{ℕ, ◌⊎◌, ◌+◌, ◌-◌, ◌*◌, ◌/◌, ◌^◌, ◌<◌, ◌≤◌}
use Rattle.hash_bloom.specs.Filter.{Filter, count_set}

-- after m probes of good hashes bits * (1 - 1 / bits) ^ m zeros are expected: more than so many, or at most so many (O. Papapetrou,
-- W. Siberski, W. Nejdl, "Cardinality Estimation and Dynamic Length Adaptation for Bloom Filters", 2010)
module _ (bits zeros : ℕ) where
  abbrev pub LeavesMore : ℕ → Type 0
  LeavesMore m = zeros * bits ^ m < (bits - 1) ^ m * bits

  abbrev pub LeavesAtMost : ℕ → Type 0
  LeavesAtMost m = (bits - 1) ^ m * bits ≤ zeros * bits ^ m

-- the nearest number of keys: after fewer probes than those of half a key less, more zeros are expected, and after more than those of
-- half a key more, at most so many. So the least number of keys after which at most so many are expected is this one or the next. The
-- latter holds for up to 2 ^ 40 bits, and for more that have more zeros, as for 2 ^ 59 where half are zeros.
pub record IsNearest (bits probes zeros keys : ℕ) : Type 0 where
  pub more : (m : ℕ) → m + probes / 2 < probes * keys → LeavesMore bits zeros m
  pub at_most : bits ^ 3 ≤ 2 ^ 120 * zeros → keys < 2 ^ 64 - 1 → (m : ℕ) → probes * keys + probes / 2 < m → LeavesAtMost bits zeros m

abbrev pub IsEstimate : Filter → ℕ → Type 0
IsEstimate filter = IsNearest filter.bits filter.probes (filter.bits - count_set filter.words filter.bits)

-- ---- in parts of 2 ^ 128
-- on a scale on which all bits are 2 ^ 128, so many zeros are expected after some probes, or up to 2 * probes - 1 more
pub record IsExpected (bits probes zeros : ℕ) : Type 0 where
  pub some : 1 ≤ probes
  pub low : zeros * bits ^ probes ≤ 2 ^ 128 * (bits - 1) ^ probes
  pub high : 2 ^ 128 * (bits - 1) ^ probes ≤ (zeros + (2 * probes - 1)) * bits ^ probes

-- at most the limit is expected
abbrev pub IsWithin : ℕ → ℕ → ℕ → Type 0
IsWithin bits limit probes = (zeros : ℕ) × IsExpected bits probes zeros × (zeros ≤ limit)

-- the last probes above the limit, in multiples of `one`: the next multiple is within it, or above 2 ^ 70
pub record IsLast (bits limit one probes zeros : ℕ) : Type 0 where
  pub expected : IsExpected bits probes zeros
  pub next : (2 ^ 70 < probes + one) ⊎ IsWithin bits limit (probes + one)
