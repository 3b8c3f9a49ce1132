-- What the contracts of this crate share of std, of the crates below and of its own definitions, passed on from one place.
pub use Rattle.hash_c.specs.Columns.{AreOffsets, IsColumn, IsColumnBy, NoneFalls}
pub use Rattle.hash_c.specs.Lines.{laid_over}
pub use Rattle.hash_c.specs.SpookyState.{AreZeros}
pub use Rattle.hash_c.specs.Kinds.{hash_at, kind_at}
pub use Rattle.hash_kinds.specs.Named.{hash_of, kind_named}
pub use Rattle.hash_more.specs.Crc32.{ieee, castagnoli, bits_out, crc32_of, crc32c_of, crc_from, crc_answer}
pub use Rattle.hash_more.specs.Djb2Add.{djb2_add_from}
pub use Rattle.hash_more.specs.Elf.{elf_from}
pub use Rattle.hash_more.specs.Fnv1.{fnv1_32_from, fnv1_64_from}
pub use Rattle.hash_more.specs.Joaat.{joaat_from, joaat_answer}
pub use Rattle.hash_blocks.specs.Murmur3.{murmur3_32}
pub use Rattle.hash_blocks.specs.Murmur3x128.{murmur3_128}
pub use Rattle.hash_blocks.specs.SipHash.{siphash}
pub use Rattle.hash_xxh3.specs.Xxh3.{xxh3_64_of}
pub use Rattle.hash_blocks.specs.Xxh32.{xxh32}
pub use Rattle.hash_blocks.specs.Xxh64.{xxh64}
pub use Rattle.hashers.specs.Fnv.{fnv1a64_of, fnv1a32_from, fnv1a64_from, fnv1a32_basis, fnv1a64_basis, fnv1a32_of}
pub use Rattle.hashers.specs.Fx.{fx32, fx64, words32, words64}
pub use Rattle.hashers.specs.Lookup3.{lookup3_of, lookup3_from, lookup3_answer}
pub use Rattle.hashers.specs.Oaat.{oaat_state, oaat_finish, oaat_of}
pub use Rattle.hashers.specs.Oz.{djb2_from, djb2_of}
pub use Rattle.hashers.specs.Pigeon.{bricolage_from}
pub use Rattle.hashers.specs.Spooky.{spooky, spooky_v1}
pub use Rattle.hashers.specs.Sums.{loselose_from, passthrough_from, sdbm_from}
pub use Rattle.hashers.specs.Text.{IsText}
pub use Rattle.std.specs.Bool.{OnFalse, OnTrue}
pub use Rattle.std.specs.Prelude.{ℕ, List, [], Some, None, take, IsTrue, length, drop, min, map, slice_index, IsSome, bit_xor, T}
pub use Rattle.text_set.specs.Lines.{line_texts}
