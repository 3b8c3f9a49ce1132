-- The stretch that adds four words to SpookyHash's four, between two mixes of a text below 192 bytes.
use Rattle.std.specs.Prelude.{ℕ, List, map, slice_index}
use Rattle.std.specs.List.{flat_map, range_with_len}
use Rattle.std.specs.Int.{to_le_bytes, w64}
use Rattle.hash_words.specs.Words.{sub}

-- what is to be added to n words of w bits for n others, word by word
abbrev pub differences : ℕ → ℕ → List ℕ → List ℕ → List ℕ
differences w n from to = map (λ i. sub w (slice_index to i) (slice_index from i)) (range_with_len 0 n)

-- what is to be added to four words
abbrev pub missing : List ℕ → List ℕ → List ℕ
missing from to = differences 64 4 from to

-- the bytes of words
abbrev pub stretch_of : List ℕ → List ℕ
stretch_of words = flat_map (to_le_bytes w64) words
