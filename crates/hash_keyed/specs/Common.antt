-- What the contracts of this crate share of std, of the crates below and of its own definitions, passed on from one place.
pub use Rattle.hash_keyed.specs.Poly61.{prime61, words, word_count, poly_hash, AreKeys, ArePairs, poly_step, poly_state}
pub use Rattle.hash_keyed.specs.Poly61Laws.{hash_from_key, poly61-is, IsPosition-start, IsPosition-after, after-nil, after-append, stands_at_key, stands_after, answer_where_stands}
pub use Rattle.hash_keyed.specs.Poly61State.{after, as_word, poly61, poly_end, start_at, share_place, MeetAtBoth, SomeTwoMeet, Position, default_key, poly61_from, joined_value, byte_in, IsPosition, PolyStandsAt, place_of, full_words, ArePowers, block_sum}
pub use Rattle.hashers.specs.Text.{IsText}
pub use Rattle.std.specs.List.{concat, sum_by}
pub use Rattle.std.specs.Prelude.{IfOk, fold, ℕ, max, List, length, All, AllPairs, [], refl, MatchOption, IsTrue, slice_index, take, drop}
