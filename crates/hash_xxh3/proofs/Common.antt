-- What the proofs of this crate share of std, of the crates below and of its own definitions, passed on from one place.
pub use Rattle.hash_laws.specs.TextLaws.{IsByte, IsText-from_slice}
pub use Rattle.hash_words.proofs.PutLemmas.{length-put_at, take-put_at, take-put_two}
pub use Rattle.hash_words.specs.Put.{put_at}
pub use Rattle.hash_words.specs.Words.{add, sub}
unfoldable pub use Rattle.hash_words.specs.Words.{le}
pub use Rattle.hash_xxh3.specs.Long.{last_words, secret_piece, start_lanes, stripe_in, stripes_in}
unfoldable pub use Rattle.hash_xxh3.specs.Long.{secret_of}
pub use Rattle.hash_xxh3.specs.Middle.{add_nth, length_word}
pub use Rattle.hash_xxh3.specs.Streaming.{IsPosition, Long, Position, Short, after, hash, more_stripes}
unfoldable pub use Rattle.hash_xxh3.specs.Streaming.{advanced}
pub use Rattle.hash_xxh3.specs.StreamingLaws.{IsLong-advanced, IsPosition-after, advanced_none, advanced_on, after_from, fold-position, hash-position, hash_of_text}
pub use Rattle.hash_xxh3.specs.StripeLaws.{pair_in, stripes-by_two-and_last, stripes_in-add, stripes_in-prefix, stripes_in-take, two-at_end, two-inside}
pub use Rattle.hash_xxh3.specs.Wide.{add_two}
pub use Rattle.hash_xxh3.specs.declared.long.Lanes.{Lanes}
pub use Rattle.std.proofs.Common.{List, [], add-zero, ap, append-nil, append_assoc, ap₂, arith, drop, false, fold, get_or, length, length-append, nat_eq, nat_lt, refl, suc, sym, take, true, w64, zero, ℕ, ◌%◌, ◌*◌, ◌++◌, ◌+◌, ◌-◌, ◌/◌, ◌<◌, ◌^◌, ◌∙◌, ◌≡◌, ◌≤◌, length-drop, length-take-le, take-append-drop, take_all}
pub use Rattle.std.proofs.lemmas.Bool.Decides.{nat_tests}
pub use Rattle.std.proofs.lemmas.Grind.{common_steps}
pub use Rattle.std.proofs.lemmas.List.{drop-append-le, drop-drop, drop-take, drop_at, take-take}
pub use Rattle.std.specs.List.{concat, flat_map, range_with_len}
pub use Rattle.std.specs.Simd.{first_chunks}
pub use Rattle.std.proofs.lemmas.List.Elements.{All-take}
