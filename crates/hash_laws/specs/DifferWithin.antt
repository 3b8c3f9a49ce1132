-- Texts that differ within a few neighbouring places, or within one block.
use Rattle.std.specs.Prelude.{◌≡◌, ◌≢◌, ◌⊎◌, ℕ, ◌+◌, ◌/◌, ◌<◌, ◌≤◌, List, length, slice_index, bit_and}

-- outside `places` neighbouring places, the first of which is `from`, the texts agree
abbrev pub AgreeOutside : ℕ → ℕ → List ℕ → List ℕ → Type 0
AgreeOutside from places x y =
    (i : ℕ) → (i < from) ⊎ (from + places ≤ i) → slice_index x i ≡ slice_index y i

-- at every place the two bytes agree under the mask
abbrev pub AgreeUnder : ℕ → List ℕ → List ℕ → Type 0
AgreeUnder mask x y = (i : ℕ) → bit_and (slice_index x i) mask ≡ bit_and (slice_index y i) mask

-- the lengths are equal, the texts differ, there are `places` neighbouring places outside which they agree, and
-- at every place the bytes agree under the mask; a text with fewer places is one window
pub record DifferWithin (places mask : ℕ) (x y : List ℕ) : Type 0 where
  pub same_length : length x ≡ length y
  pub different : x ≢ y
  pub within : (from : ℕ) × AgreeOutside from places x y
  pub under_mask : AgreeUnder mask x y

-- the lengths are equal and exactly one place differs
pub record DifferAtOnePlace (x y : List ℕ) : Type 0 where
  pub same_length : length x ≡ length y
  pub place : (i : ℕ) × (slice_index x i ≢ slice_index y i) × ((j : ℕ) → j ≢ i → slice_index x j ≡ slice_index y j)

-- the texts agree before this place, and differ there
pub record IsFirstDifference (place : ℕ) (x y : List ℕ) : Type 0 where
  pub in_text : place < length x
  pub same_before : (i : ℕ) → i < place → slice_index x i ≡ slice_index y i
  pub differ_there : slice_index x place ≢ slice_index y place

-- the lengths are equal, the texts differ, and all places where they do are in one group
pub record DifferInOne (group : ℕ → ℕ) (x y : List ℕ) : Type 0 where
  pub same_length : length x ≡ length y
  pub different : x ≢ y
  pub one : (g : ℕ) × ((i : ℕ) → group i ≢ g → slice_index x i ≡ slice_index y i)

-- all places where they differ are in one block of n bytes
abbrev pub DifferInOneBlock : ℕ → List ℕ → List ℕ → Type 0
DifferInOneBlock n x y = DifferInOne (λ i. i / n) x y

-- the texts agree from a place on
abbrev pub AgreeFrom : ℕ → List ℕ → List ℕ → Type 0
AgreeFrom place x y = (i : ℕ) → place ≤ i → slice_index x i ≡ slice_index y i
