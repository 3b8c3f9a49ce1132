-- A Bloom filter as a set of bits, and the places that a key has there.
use Rattle.std.specs.Prelude.{ℕ, ◌≡◌, ◌↔◌, ◌⊎◌, ◌+◌, ◌-◌, ◌*◌, ◌/◌, ◌%◌, ◌^◌, ◌<◌, ◌≤◌, List, length, slice_index, max}
use Rattle.std.specs.Int.{bit_at}
use Rattle.std.specs.List.{sum_by, range_with_len}

-- how many bits a filter has, how many probes each key has, and the bits in words of 64
pub record Filter : Type 0 where
  pub bits : ℕ
  pub probes : ℕ
  pub words : List ℕ

abbrev pub filter_of : ℕ → ℕ → List ℕ → Filter
filter_of bits probes words = record { bits = bits; probes = probes; words = words }

-- bit i, 0 or 1: that of value 2 ^ (i mod 64) in word i / 64
abbrev pub bit : List ℕ → ℕ → ℕ
bit words i = bit_at (slice_index words (i / 64)) (i % 64)

abbrev pub HasBit : List ℕ → ℕ → Type 0
HasBit words i = bit words i ≡ 1

-- how many of the first n bits are set
abbrev pub count_set : List ℕ → ℕ → ℕ
count_set words n = sum_by (bit words) (range_with_len 0 n)

abbrev pub IsSet : Filter → ℕ → Type 0
IsSet filter i = HasBit filter.words i

-- there are a bit and a probe at least, and as many words as the bits need
pub record HasRoom (filter : Filter) : Type 0 where
  pub bits : 1 ≤ filter.bits
  pub probes : 1 ≤ filter.probes
  pub enough : filter.bits ≤ 64 * length filter.words

-- and there are no more words, and no bit beyond is set
pub record IsFilter (filter : Filter) : Type 0 where
  pub room : HasRoom filter
  pub no_more : 64 * length filter.words < filter.bits + 64
  pub within : (i : ℕ) → IsSet filter i → i < filter.bits

-- ---- the places of a key
-- the hash of probe i, by two of the key: enhanced double hashing (P. Dillinger, P. Manolios, "Bloom Filters in Probabilistic
-- Verification", 2004)
abbrev pub probe_hash : ℕ → ℕ → ℕ → ℕ
probe_hash first second i = (first + i * second + (i ^ 3 - i) / 6) % 2 ^ 64

-- its place among so many bits
abbrev pub place : ℕ → ℕ → ℕ → ℕ → ℕ
place bits first second i = probe_hash first second i % bits

-- one of the first n places is j
abbrev pub IsAmong : (ℕ → ℕ) → ℕ → ℕ → Type 0
IsAmong places n j = (i : ℕ) × (i < n) × (places i ≡ j)

-- the bits at the first n places are set
abbrev pub HasAll : List ℕ → (ℕ → ℕ) → ℕ → Type 0
HasAll words places n = (i : ℕ) → i < n → HasBit words (places i)

module _ (f g : List ℕ → ℕ) (filter : Filter) where
  -- one of the key's probes is at j
  abbrev pub IsProbe : List ℕ → ℕ → Type 0
  IsProbe key j = IsAmong (place filter.bits (f key) (g key)) filter.probes j

  -- all of the key's probes are set
  abbrev pub Passes : List ℕ → Type 0
  Passes key = HasAll filter.words (place filter.bits (f key) (g key)) filter.probes

  -- each of the key's probes is set, or among more
  abbrev pub IsCovered : List ℕ → (ℕ → Type 0) → Type 0
  IsCovered key more = (j : ℕ) → IsProbe key j → IsSet filter j ⊎ more j

  -- no key has all of its probes set
  abbrev pub PassesNone : Type 0
  PassesNone = (key : List ℕ) → Passes key → ⊥

-- ---- changes
abbrev pub IsEmpty : Filter → Type 0
IsEmpty filter = (j : ℕ) → IsSet filter j → ⊥

-- so many bits and probes
abbrev pub HasShape : ℕ → ℕ → Filter → Type 0
HasShape bits probes filter = (filter.bits ≡ bits) × (filter.probes ≡ probes)

abbrev pub Fits : Filter → Filter → Type 0
Fits a b = HasShape a.bits a.probes b

-- the bits that were set, those of a set, and no others
pub record Adds (old new : Filter) (more : ℕ → Type 0) : Type 0 where
  pub shape : Fits old new
  pub set : (j : ℕ) → IsSet new j ↔ (IsSet old j ⊎ more j)

-- each key that passes in the one filter passes in the other
abbrev pub AllPassIn : (f g : List ℕ → ℕ) → Filter → Filter → Type 0
AllPassIn f g one other = (key : List ℕ) → Passes f g one key → Passes f g other key

-- how many probes let few strange keys pass, at so many bits a key: about ln 2 of them, to the nearest whole number
abbrev pub best_probes : ℕ → ℕ
best_probes bits_per_key = max 1 ((693 * bits_per_key + 500) / 1000)

-- a filter for so many keys: at least one bit
abbrev pub IsForKeys : ℕ → ℕ → Filter → Type 0
IsForKeys keys bits_per_key filter = HasShape (max 1 (keys * bits_per_key)) (best_probes bits_per_key) filter

-- how many bits a key let at most one strange key in 2^k pass, at the best number of probes: about k / ln 2, rounded up
abbrev pub bits_for_share : ℕ → ℕ
bits_for_share k = (1443 * k + 999) / 1000

-- at most one strange key in 2^k passes at so many bits a key, by the formula (1 - e^(-probes / bits))^probes (A. Broder and
-- M. Mitzenmacher, "Network Applications of Bloom Filters: A Survey", 2004), where e is below 2.72: so many bits of 100 stay zero
pub record LetsFewPass (k bits_per_key probes : ℕ) : Type 0 where
  pub zeros : ℕ
  pub stay : 272 ^ probes * zeros ^ bits_per_key ≤ 100 ^ probes * 100 ^ bits_per_key
  pub pass : 2 ^ k * (100 - zeros) ^ probes ≤ 100 ^ probes
