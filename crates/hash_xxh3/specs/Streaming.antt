-- Where a hasher of XXH3 stands in a text, and what it keeps of it.
use Rattle.std.specs.Prelude.{◌≡◌, ℕ, ◌+◌, ◌-◌, ◌*◌, ◌/◌, ◌%◌, ◌^◌, ◌<◌, ◌≤◌, nat_lt, List, [], ◌∷◌, ◌++◌, length, drop, slice_index, if◌then◌else◌}
use Rattle.hash_laws.specs.Text.{IsText}
use Rattle.hash_xxh3.specs.Long.{IsLanes, secret_of, start_lanes, stripes_in, last_words, end_long}
use Rattle.hash_xxh3.specs.Xxh3.{xxh3_kept, xxh3_64_of}
use Rattle.hash_xxh3.specs.declared.long.Lanes.{Lanes}

-- the seed and a text of at most 240 bytes; or of a longer text the seed, the words after all stripes that have a byte behind
-- them, the text's length modulo 2 ^ 64, and the last of these stripes with the bytes behind it
pub data Position : Type 0 where
  Short : ℕ → List ℕ → Position
  Long : ℕ → Lanes → ℕ → List ℕ → Position

-- how many stripes behind the first have a byte behind them, in so many bytes
abbrev pub more_stripes : ℕ → ℕ
more_stripes len = (len - 65) / 64

-- the words that a longer text ends in, from those after the first stripe of t, which is its end
abbrev pub kept_words : (secret : List ℕ) → Lanes → List ℕ → List ℕ
kept_words secret lanes t =
    last_words secret (stripes_in secret lanes (more_stripes (length t)) (drop 64 t)).words (drop (64 * more_stripes (length t)) t)

-- from the words after the first stripe of t to those after the last that has a byte behind it
unfoldable pub advanced : ℕ → Lanes → (len : ℕ) → List ℕ → Position
advanced seed lanes len t =
    Long seed (stripes_in (secret_of seed) lanes (more_stripes (length t)) (drop 64 t)) len (drop (64 * more_stripes (length t)) t)

-- where a longer text stands
abbrev pub long_position : ℕ → List ℕ → Position
long_position seed text = advanced seed (stripes_in (secret_of seed) start_lanes 1 text) (length text % 2 ^ 64) text

abbrev pub position : ℕ → List ℕ → Position
position seed text = if nat_lt (length text) 241 then Short seed text else long_position seed text

-- after more bytes
abbrev pub after : Position → List ℕ → Position
after (Short seed text) bytes = position seed (text ++ bytes)
after (Long seed lanes len kept) bytes = advanced seed lanes ((len + length bytes) % 2 ^ 64) (kept ++ bytes)

-- the hash at a position
abbrev pub hash : Position → ℕ
hash (Short seed text) = xxh3_kept seed text
hash (Long seed lanes len kept) = end_long (secret_of seed) (last_words (secret_of seed) lanes.words kept) len

-- a seed of 64 bits and a text of at most 240 bytes
pub record IsShort (seed : ℕ) (text : List ℕ) : Type 0 where
  pub seed_in : seed < 2 ^ 64
  pub is_text : IsText text
  pub few : length text < 241

-- numbers in range, and one whole stripe and a part of the next, or all of it
pub record IsLong (seed : ℕ) (lanes : Lanes) (len : ℕ) (kept : List ℕ) : Type 0 where
  pub lanes_in : IsLanes lanes
  pub seed_in : seed < 2 ^ 64
  pub length_in : len < 2 ^ 64
  pub is_text : IsText kept
  pub some : 65 ≤ length kept
  pub few : length kept ≤ 128

abbrev pub IsPosition : Position → Type 0
IsPosition (Short seed text) = IsShort seed text
IsPosition (Long seed lanes len kept) = IsLong seed lanes len kept

-- the start is a seed below 2 ^ 64, and the position is that of the text under it
pub record Xxh3StandsAt (at : Position) (from text : List ℕ) : Type 0 where
  pub seed : ℕ
  pub only : from ≡ seed ∷ []
  pub seed_in : seed < 2 ^ 64
  pub is_text : IsText text
  pub there : at ≡ position seed text

-- the answer to a text, from a start of one seed
abbrev pub xxh3_from : List ℕ → List ℕ → ℕ
xxh3_from seeds text = xxh3_64_of (slice_index seeds 0) text
