-- What the contracts of this crate share of std, of the crates below and of its own definitions, passed on from one place.
pub use Rattle.hash_xxh3.specs.Long.{secret_of, IsLanes, start_words, start_lanes, halves_product, lane, accumulate, scrambled, scramble, stripe_in, stripes_in, merge_pair, merge, last_words, end_words, end_long, long_under, of_long}
pub use Rattle.hash_xxh3.specs.Place.{Fits, place_of, StandsBehind}
pub use Rattle.hash_xxh3.specs.Secret.{default_secret}
pub use Rattle.hash_xxh3.specs.Streaming.{advanced, position, after, hash, Position, IsPosition, Xxh3StandsAt, xxh3_from, kept_words, Short}
pub use Rattle.hash_xxh3.specs.Wide.{wide_hash, xxh3_128_of, wide_none, few_turned, few_flip_high, wide_few, eight_wide_number, eight_wide_flip, eight_product, eight_high, eight_low, wide_words, wide_eight, sixteen_product, sixteen_back, sixteen_high, sixteen_low, sixteen_end, wide_sixteen, wide_short, add_two, wide_end, add_pair, wide_128, first_pairs, other_pairs, wide_240, wide_end_long, wide_under, wide_long, wide_kept}
pub use Rattle.hash_xxh3.specs.Words.{folded_product, word_at, half_at, avalanche, avalanche_64, three_turns, length_in, length_mix}
pub use Rattle.hash_xxh3.specs.Xxh3.{xxh3_64_of, xxh3_short, xxh3_kept}
pub use Rattle.std.specs.Prelude.{ℕ, length, take, drop, [], fold, Some, None, List, refl, bit_xor, true, false, IsTrue}
