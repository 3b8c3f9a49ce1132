-- What the numbers that a SpookyHasher keeps stand for.
use Rattle.std.specs.Prelude.{◌≡◌, ◌<◌, ◌≤◌, nat_lt, take, slice_index, if◌then◌else◌}
use Rattle.hash_jenkins.specs.Filled.{zero_filled}
use Rattle.hash_jenkins.specs.Spooky.{Position, Short, Long, long_start}
use Rattle.hash_jenkins.specs.SpookyStanding.{IsPosition}
use Rattle.hash_jenkins.specs.declared.spooky_parts.SpookyParts.{SpookyParts}

abbrev pub position_of : SpookyParts → Position
position_of s =
    if nat_lt s.length 192 then Short (slice_index s.words 0) (slice_index s.words 1) (take s.kept s.buffer)
    else Long s.words (take s.kept s.buffer)

-- below 192 bytes all are kept; from then on less than a block is
pub record FitsBuffer (s : SpookyParts) : Type 0 where
  pub all_kept : s.length < 192 → s.kept ≡ s.length
  pub part_kept : 192 ≤ s.length → s.kept < 96

-- what is kept fits, and the position is in range; below 192 bytes the bytes lie before zeros, and nothing is mixed
pub record IsSettled (s : SpookyParts) : Type 0 where
  pub fits : FitsBuffer s
  pub in_range : IsPosition (position_of s)
  pub unmixed : s.length < 192 → s.words ≡ long_start (slice_index s.words 0) (slice_index s.words 1)
  pub filled : s.length < 192 → s.buffer ≡ zero_filled 192 (take s.kept s.buffer)
