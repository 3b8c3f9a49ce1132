-- All hashes.
use Rattle.std.specs.Prelude.{ℕ, Bool, false, List, Option, codes, option_map}
use Rattle.std.specs.List.{find}
use Rattle.std.specs.Str.{bytes_eq}
use Rattle.hash_bytes.specs.Fnv.{fnv1a32_basis, fnv1a64_basis}
use Rattle.hash_kinds.specs.declared.table.Kind.{Kind}
use Rattle.hash_kinds.specs.declared.table.Kind.TheVariants.{Ported, Crc32, Crc32c, Fnv1At32, Fnv1At64, Djb2Add, Joaat, Elf, Xxh32, Xxh64, Murmur3At32, Murmur3, SipHash13, SipHash24, Xxh3}
use Rattle.hash_kinds.specs.declared.table.TheConstants.{KINDS}
use Rattle.hash_more.specs.Crc32.{crc32_of, crc32c_of}
use Rattle.hash_more.specs.Djb2Add.{djb2_add_from}
use Rattle.hash_more.specs.Elf.{elf_from}
use Rattle.hash_more.specs.Fnv1.{fnv1_32_from, fnv1_64_from}
use Rattle.hash_more.specs.Joaat.{joaat_answer, joaat_from}
use Rattle.hash_blocks.specs.Murmur3.{murmur3_32}
use Rattle.hash_blocks.specs.Murmur3x128.{murmur3_128}
use Rattle.hash_names.specs.Named.{Row, row, row_of as ported_row, read_of as ported_read}
use Rattle.hash_blocks.specs.SipHash.{siphash}
use Rattle.hash_xxh3.specs.Xxh3.{xxh3_64_of}
use Rattle.hash_blocks.specs.Xxh32.{xxh32}
use Rattle.hash_blocks.specs.Xxh64.{xxh64}

-- the table
-- declared: rows
abbrev pub row_of : Kind → Row
row_of (Ported ported) = ported_row ported
row_of Crc32 = row 14 (codes "crc32") 32 false crc32_of
row_of Crc32c = row 15 (codes "crc32c") 32 false crc32c_of
row_of Fnv1At32 = row 16 (codes "fnv1_32") 32 false (fnv1_32_from fnv1a32_basis)
row_of Fnv1At64 = row 17 (codes "fnv1_64") 64 false (fnv1_64_from fnv1a64_basis)
row_of Djb2Add = row 18 (codes "djb2_add") 32 false (djb2_add_from 5381)
row_of Joaat = row 19 (codes "joaat") 32 false (λ text. joaat_answer (joaat_from 0 text))
row_of Elf = row 20 (codes "elf") 28 false (elf_from 0)
row_of Xxh32 = row 22 (codes "xxh32") 32 false (xxh32 0)
row_of Xxh64 = row 23 (codes "xxh64") 64 false (xxh64 0)
row_of Murmur3At32 = row 24 (codes "murmur3_32") 32 false (murmur3_32 0)
row_of Murmur3 = row 25 (codes "murmur3") 64 false (λ text. (murmur3_128 0 text).0)
row_of SipHash13 = row 26 (codes "siphash13") 64 false (siphash 1 3 0 0)
row_of SipHash24 = row 27 (codes "siphash24") 64 false (siphash 2 4 0 0)
row_of Xxh3 = row 28 (codes "xxh3") 64 false (xxh3_64_of 0)

-- end of declared

abbrev pub name_of : Kind → List ℕ
name_of kind = (row_of kind).name

abbrev pub bits_of : Kind → ℕ
bits_of kind = (row_of kind).bits

abbrev pub shows_cuts : Kind → Bool
shows_cuts kind = (row_of kind).cuts

-- the hash of a text in one call
abbrev pub hash_of : Kind → List ℕ → ℕ
hash_of kind = (row_of kind).hash

-- the hash of a text that is read
abbrev pub read_of : Kind → List ℕ → ℕ
read_of (Ported ported) = ported_read ported
read_of kind = hash_of kind

-- the hash of that name, if there is one
unfoldable pub kind_named : List ℕ → Option Kind
kind_named name = find (λ kind. bytes_eq (name_of kind) name) KINDS

-- the same, as what it makes of a text that is read
abbrev pub named : List ℕ → Option (List ℕ → ℕ)
named name = option_map read_of (kind_named name)
