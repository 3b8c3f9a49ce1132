-- The numbers that the table has of hashes: how they fall into buckets, and how many of them are equal.
use Rattle.std.specs.Prelude.{ℕ, ◌≡◌, ◌==◌, ◌<◌, ◌≤◌, ◌*◌, List, Option, Some, None, sum_by, count_by}
use Rattle.hashers.specs.Counts.{in_bucket, bucket_counts, collisions}
use Rattle.spread_core.specs.declared.counts.Counts.{Counts}
use Rattle.spread_core.specs.declared.sizes.Sizes.{Sizes}
use Rattle.spread_core.specs.declared.counts.Spread.{Spread}

-- the fullest of m buckets has so many
pub record IsFullest (m : ℕ) (hashes : List ℕ) (count : ℕ) : Type 0 where
  pub most : (b : ℕ) → b < m → in_bucket m b hashes ≤ count
  pub reached : (b : ℕ) × (b < m) × (in_bucket m b hashes ≡ count)

-- how many of m buckets are empty
abbrev pub empty : ℕ → List ℕ → ℕ
empty m hashes = count_by (λ count. count == 0) (bucket_counts m hashes)

-- the sum of the squares of what m buckets have
abbrev pub squares : ℕ → List ℕ → ℕ
squares m hashes = sum_by (λ count. count * count) (bucket_counts m hashes)

-- these are the numbers of m buckets
pub record IsSpread (m : ℕ) (hashes : List ℕ) (spread : Spread) : Type 0 where
  pub of_buckets : spread.buckets ≡ m
  pub has_fullest : IsFullest m hashes spread.fullest
  pub has_empty : spread.empty ≡ empty m hashes
  pub has_squares : spread.squares ≡ squares m hashes

-- the same, where there is a second number of buckets
abbrev pub IsSecond : Option ℕ → List ℕ → Option Spread → Type 0
IsSecond None hashes None = Unit {0}
IsSecond None hashes (Some spread) = ⊥
IsSecond (Some m) hashes None = ⊥
IsSecond (Some m) hashes (Some spread) = IsSpread m hashes spread

-- these are the numbers of the hashes
pub record IsCounts (sizes : Sizes) (hashes : List ℕ) (counts : Counts) : Type 0 where
  pub has_collisions : counts.collisions ≡ collisions hashes
  pub has_first : IsSpread sizes.first hashes counts.first
  pub has_second : IsSecond sizes.second hashes counts.second
