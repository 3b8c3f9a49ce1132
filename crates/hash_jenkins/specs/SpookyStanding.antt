-- Where a SpookyHasher stands in a text, from its two seeds.
use Rattle.std.specs.Prelude.{◌≡◌, ◌<◌, ◌^◌, ℕ, List, [], ◌∷◌, length, slice_index}
use Rattle.hash_laws.specs.Text.{IsText}
use Rattle.hash_words.specs.Words.{AreWords}
use Rattle.hash_jenkins.specs.Spooky.{Position, Short, Long, position, spooky, spooky_v1}

-- two seeds of 64 bits, and a text below 192 bytes
pub record IsShort (seed1 seed2 : ℕ) (text : List ℕ) : Type 0 where
  pub seed1_in : seed1 < 2 ^ 64
  pub seed2_in : seed2 < 2 ^ 64
  pub is_text : IsText text
  pub below_long : length text < 192

-- twelve words of 64 bits, and a tail below a block
pub record IsLong (words t : List ℕ) : Type 0 where
  pub twelve : length words ≡ 12
  pub words_in : AreWords 64 words
  pub is_text : IsText t
  pub below_block : length t < 96

-- a position whose numbers are words and bytes, and whose text or tail is as short as it must be
abbrev pub IsPosition : Position → Type 0
IsPosition (Short seed1 seed2 text) = IsShort seed1 seed2 text
IsPosition (Long words t) = IsLong words t

-- the start is two seeds below 2^64, and the position is that of the text under them
pub record SpookyStandsAt (at : Position) (from text : List ℕ) : Type 0 where
  pub seed1 : ℕ
  pub seed2 : ℕ
  pub only : from ≡ seed1 ∷ seed2 ∷ []
  pub seed1_in : seed1 < 2 ^ 64
  pub seed2_in : seed2 < 2 ^ 64
  pub is_text : IsText text
  pub there : at ≡ position seed1 seed2 text

-- the answer to a text, from a start of two seeds
abbrev pub spooky_from : List ℕ → List ℕ → ℕ
spooky_from seeds text = (spooky (slice_index seeds 0) (slice_index seeds 1) text).0

-- the same by version 1
abbrev pub spooky_v1_from : List ℕ → List ℕ → ℕ
spooky_v1_from seeds text = (spooky_v1 (slice_index seeds 0) (slice_index seeds 1) text).0
