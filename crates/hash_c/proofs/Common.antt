-- What the proofs of this crate share of std, of the crates below and of its own definitions, passed on from one place.
pub use Rattle.hash_blocks.specs.BlocksLaws.{after-position, answer-position, blocks_short, position-nil, same_position, tail_short}
pub use Rattle.hash_c.specs.Columns.{AreOffsets, NoneFalls, text_at}
pub use Rattle.hash_c.specs.Lines.{laid_over}
pub use Rattle.hash_keyed.specs.Poly61Laws.{answer_where_stands, stands_after, stands_in_range}
pub use Rattle.hash_keyed.specs.Poly61State.{as_word, poly_end}
pub use Rattle.hash_c.specs.Kinds.{hash_at}
pub use Rattle.hash_more.specs.Crc32.{all_ones, crc_answer}
pub use Rattle.hash_ring.specs.Points.{points_of}
pub use Rattle.hashers.proofs.XorLemmas.{xor_twice}
pub use Rattle.std.proofs.Common.{IsPermutation, List, Some, [], ap, append_assoc, ap₂, arith, drop, get_or, length, map, refl, rules, set, slice_index, subst, suc, sym, take, tests, unwrap_or, zero, ℕ, ◌%◌, ◌++◌, ◌+◌, ◌-◌, ◌<◌, ◌^◌, ◌↔◌, ◌∙◌, ◌∷◌, ◌≡◌, ◌≢◌, ◌≤◌}
pub use Rattle.std.proofs.lemmas.List.{append-nil, drop_all, get_or-map, length-map, length_push, map-append, take-append-drop, take_all, take_more_set, take_rest}
pub use Rattle.std.proofs.lemmas.Nat.{xor_lt}
pub use Rattle.text_set.specs.Lines.{line_texts}
