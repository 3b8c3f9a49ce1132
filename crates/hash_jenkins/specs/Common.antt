-- What the contracts of this crate share of std, of the crates below and of its own definitions, passed on from one place.
pub use Rattle.hash_jenkins.specs.Counted.{Counted, after_write, MixesBlock, block_end, calls_over, mixing_calls}
pub use Rattle.hash_jenkins.specs.Filled.{zero_filled}
pub use Rattle.hash_jenkins.specs.Spooky.{Position, position, after, hash, hash_v1, short_words_at, short_words_of, long_words_at, long_words_of, spooky, spooky_v1, Long, padded, long_words, mixed, add_chunk, add_chunks, short_words, short_words_v1}
pub use Rattle.hash_jenkins.specs.SpookyLaws.{IsPosition-fresh, IsPosition-after, after-nil, after-append, stands_at_seeds, stands_after, hash_from_seeds, answer_where_stands, hash_v1_from_seeds, answer_v1_where_stands}
pub use Rattle.hash_jenkins.specs.SpookyStanding.{IsPosition, SpookyStandsAt, spooky_from, spooky_v1_from}
pub use Rattle.std.specs.Prelude.{ℕ, List, [], length, slice_index, refl, take, IsTrue}
