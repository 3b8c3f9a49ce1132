-- What the proofs of this crate share of std, of the crates below and of its own definitions, passed on from one place.
pub use Rattle.hash_jenkins.specs.Counted.{after_write, block_end, calls_over}
pub use Rattle.hash_jenkins.specs.Filled.{zero_filled}
pub use Rattle.hash_jenkins.specs.Lookup3.{AreTwoWords, add_block, add_words, block_words, lookup3_answer, lookup3_from, lookup3_words, mix_block, mix_blocks, start}
unfoldable pub use Rattle.hash_jenkins.specs.Lookup3.{last_block}
pub use Rattle.hash_jenkins.specs.Spooky.{Long, Position, add_chunk, after, hash, mixed, position}
unfoldable pub use Rattle.hash_jenkins.specs.Spooky.{tail}
pub use Rattle.hash_jenkins.specs.SpookyLaws.{IsPosition-after, after-append, after-nil, after-position, after_from, hash-position, mixed-append, mixed_short, mixed_through}
pub use Rattle.hash_jenkins.specs.SpookyStanding.{IsPosition}
pub use Rattle.hash_rounds.proofs.BlockLemmas.{spooky_blocks-take, spooky_blocks_short}
pub use Rattle.hash_rounds.specs.Blocks.{spooky_blocks}
pub use Rattle.hash_rounds.specs.Steps.{apply}
pub use Rattle.hash_words.proofs.PutLemmas.{take-put_at, take-put_first}
pub use Rattle.hash_words.specs.Pieces.{le_words}
unfoldable pub use Rattle.hash_words.specs.Pieces.{pieces}
pub use Rattle.hash_words.specs.Put.{put_at}
pub use Rattle.std.proofs.Common.{List, [], ap, ap₂, arith, drop, false, fold, length, length-append, nat_le, nat_lt, refl, replicate, rules, slice_index, subst, suc, sym, take, true, zero, ℕ, ◌%◌, ◌&&◌, ◌*◌, ◌++◌, ◌+◌, ◌-◌, ◌/◌, ◌<◌, ◌^◌, ◌∙◌, ◌∷◌, ◌≡◌, ◌≤◌}
pub use Rattle.std.proofs.lemmas.Bool.Decides.{nat_tests}
pub use Rattle.std.proofs.lemmas.Grind.{common_steps}
pub use Rattle.std.proofs.lemmas.List.{append_assoc, drop-drop, drop-replicate, drop-take, drop_all, drop_at, length-take-le, take-append-le, take-take, take_all, take_at}
