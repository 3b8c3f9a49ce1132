-- SpookyHash (Bob Jenkins, SpookyV2.cpp) as a function of the whole text. A word is a number below 2 ^ 64.
use Rattle.std.specs.Prelude.{ℕ, ◌*◌, ◌/◌, ◌^◌, nat_lt, List, [], ◌∷◌, ◌++◌, length, drop, fold, slice_index, Option, Some, None, if◌then◌else◌}
use Rattle.hash_rounds.specs.Blocks.{spooky_blocks}
use Rattle.hash_words.specs.Pieces.{pieces, le_words}
use Rattle.hash_words.specs.Words.{add_at}
use Rattle.hash_jenkins.specs.Filled.{zero_filled}
use Rattle.hash_rounds.specs.Spooky.{spooky_end, short_mix, short_end}

-- ---- a text below 192 bytes

-- the four words h after a chunk with the words w
abbrev pub add_chunk : List ℕ → List ℕ → List ℕ
add_chunk h w =
    let before = add_at (add_at h 2 (slice_index w 0)) 3 (slice_index w 1) in
    add_at (add_at (short_mix before) 0 (slice_index w 2)) 1 (slice_index w 3)

-- the four words after a text's chunks of 32 bytes
unfoldable pub chunks_from : List ℕ → List ℕ → List ℕ
chunks_from h text = fold (λ h chunk. add_chunk h (le_words chunk)) h (pieces 32 text)

abbrev pub add_chunks : ℕ → ℕ → List ℕ → List ℕ
add_chunks seed1 seed2 text = chunks_from (seed1 ∷ seed2 ∷ 0xdeadbeefdeadbeef ∷ 0xdeadbeefdeadbeef ∷ []) text

-- the four words after the six chunks of the zero-filled text
abbrev pub short_start : ℕ → ℕ → List ℕ → List ℕ
short_start seed1 seed2 text = add_chunks seed1 seed2 (zero_filled 192 text)

-- the four words of a short text: the length is added to the last before the end
abbrev pub short_words : ℕ → ℕ → List ℕ → List ℕ
short_words seed1 seed2 text = short_end (add_at (short_start seed1 seed2 text) 3 (length text * 2 ^ 56))

-- the same by version 1, which does not add the length
abbrev pub short_words_v1 : ℕ → ℕ → List ℕ → List ℕ
short_words_v1 seed1 seed2 text = short_end (short_start seed1 seed2 text)

-- ---- a text of 192 bytes and more

-- the twelve words before the first block
abbrev pub long_start : ℕ → ℕ → List ℕ
long_start seed1 seed2 =
    seed1 ∷ seed2 ∷ 0xdeadbeefdeadbeef ∷ seed1 ∷ seed2 ∷ 0xdeadbeefdeadbeef
    ∷ seed1 ∷ seed2 ∷ 0xdeadbeefdeadbeef ∷ seed1 ∷ seed2 ∷ 0xdeadbeefdeadbeef ∷ []

-- what is left of a text after its whole blocks of 96 bytes
unfoldable pub tail : List ℕ → List ℕ
tail text = drop (length text / 96 * 96) text

-- a tail and zeros, with the tail's length as byte 95
abbrev pub padded : List ℕ → List ℕ
padded t = zero_filled 95 t ++ length t ∷ []

-- the words after the tail t
abbrev pub long_words : List ℕ → List ℕ → List ℕ
long_words words t = spooky_end (le_words (padded t)) words

-- the twelve words of a text
abbrev pub twelve_words : ℕ → ℕ → List ℕ → List ℕ
twelve_words seed1 seed2 text = long_words (spooky_blocks (long_start seed1 seed2) text) (tail text)

-- ---- the hash

abbrev pub first_two : List ℕ → ℕ × ℕ
first_two words = (slice_index words 0, slice_index words 1)

-- the hash of a text under two seeds
abbrev pub spooky : ℕ → ℕ → List ℕ → ℕ × ℕ
spooky seed1 seed2 text = first_two (
    if nat_lt (length text) 192 then short_words seed1 seed2 text
    else twelve_words seed1 seed2 text)

-- the hash by version 1
abbrev pub spooky_v1 : ℕ → ℕ → List ℕ → ℕ × ℕ
spooky_v1 seed1 seed2 text = first_two (
    if nat_lt (length text) 192 then short_words_v1 seed1 seed2 text
    else twelve_words seed1 seed2 text)

-- the four words of a text below 192 bytes, and none of a longer one
abbrev pub short_words_of : ℕ → ℕ → List ℕ → Option (List ℕ)
short_words_of seed1 seed2 text = if nat_lt (length text) 192 then Some (short_words seed1 seed2 text) else None

-- the twelve words of a text of 192 bytes and more, and none of a shorter one
abbrev pub long_words_of : ℕ → ℕ → List ℕ → Option (List ℕ)
long_words_of seed1 seed2 text = if nat_lt (length text) 192 then None else Some (twelve_words seed1 seed2 text)

-- ---- where a hasher stands

-- the seeds and a text below 192 bytes; or the words after all whole blocks of a longer text, and its tail
pub data Position : Type 0 where
  Short : ℕ → ℕ → List ℕ → Position
  Long : List ℕ → List ℕ → Position

-- the position after the blocks of a text, from the given words
abbrev pub mixed : List ℕ → List ℕ → Position
mixed words text = Long (spooky_blocks words text) (tail text)

-- the position of a text under two seeds
abbrev pub position : ℕ → ℕ → List ℕ → Position
position seed1 seed2 text =
    if nat_lt (length text) 192 then Short seed1 seed2 text else mixed (long_start seed1 seed2) text

-- the position after more bytes
abbrev pub after : Position → List ℕ → Position
after (Short seed1 seed2 text) bytes = position seed1 seed2 (text ++ bytes)
after (Long words t) bytes = mixed words (t ++ bytes)

-- the hash at a position
abbrev pub hash : Position → ℕ × ℕ
hash (Short seed1 seed2 text) = first_two (short_words seed1 seed2 text)
hash (Long words t) = first_two (long_words words t)

abbrev pub hash_v1 : Position → ℕ × ℕ
hash_v1 (Short seed1 seed2 text) = first_two (short_words_v1 seed1 seed2 text)
hash_v1 (Long words t) = first_two (long_words words t)

-- the four words at a position, and none where the text is a long one
abbrev pub short_words_at : Position → Option (List ℕ)
short_words_at (Short seed1 seed2 text) = Some (short_words seed1 seed2 text)
short_words_at (Long words t) = None

-- the twelve words at a position, and none where the text is a short one
abbrev pub long_words_at : Position → Option (List ℕ)
long_words_at (Short seed1 seed2 text) = None
long_words_at (Long words t) = Some (long_words words t)
