-- The ported hashes.
use Rattle.std.specs.Prelude.{ℕ, ◌≡◌, Bool, true, false, List, Option, Some, None, Result, Ok, Err, codes, fold, option_map}
use Rattle.std.specs.Io.KnownBytes.{Keeps}
use Rattle.std.specs.List.{find}
use Rattle.std.specs.Str.{bytes_eq}
use Rattle.hash_bytes.specs.Fnv.{fnv1a32_of, fnv1a64_of}
use Rattle.hash_bytes.specs.Oz.{djb2_of}
use Rattle.hash_bytes.specs.Pigeon.{bricolage_from}
use Rattle.hash_fx.specs.Fx.{fx32, fx64, words32, words64}
use Rattle.hash_jenkins.specs.Lookup3.{lookup3_from, lookup3_answer, lookup3_of}
use Rattle.hash_jenkins.specs.Oaat.{oaat_of}
use Rattle.hash_jenkins.specs.Spooky.{spooky, spooky_v1}
use Rattle.hash_names.specs.declared.reading.NoHash.{NoHash}
use Rattle.hash_names.specs.declared.reading.NoHash.TheVariants.{UnknownName, Unhashed}
use Rattle.hash_names.specs.declared.table.Ported.{Ported}
use Rattle.hash_names.specs.declared.table.Ported.TheVariants.{Fnv1a32, Fnv1a64, Djb2, Sdbm, LoseLose, Bricolage, Oaat, Lookup3, Spooky, SpookyV1, PassThrough, FxHash, FxHash32, FxHash64, Null}
use Rattle.hash_names.specs.declared.table.TheConstants.{PORTED}
use Rattle.hash_laws.specs.Limited.{Hashes, Reading}
use Rattle.hash_laws.specs.Reading.{cut}
use Rattle.hash_rounds.specs.Sums.{sdbm_from, loselose_from, passthrough_from}

-- what is said of a hash: its number among all hashes, which never changes, its name, how many bits its numbers have, whether cuts
-- between writes show, and what it makes of a text in one call, from the default start
pub record Row : Type 0 where
  pub number : ℕ
  pub name : List ℕ
  pub bits : ℕ
  pub cuts : Bool
  pub hash : List ℕ → ℕ

abbrev pub row : (number : ℕ) (name : List ℕ) (bits : ℕ) (cuts : Bool) (hash : List ℕ → ℕ) → Row
row number name bits cuts hash = record { number = number; name = name; bits = bits; cuts = cuts; hash = hash }

-- the table
-- declared: rows
abbrev pub row_of : Ported → Row
row_of Fnv1a32 = row 0 (codes "fnv1a32") 32 false fnv1a32_of
row_of Fnv1a64 = row 1 (codes "fnv1a64") 64 false fnv1a64_of
row_of Djb2 = row 2 (codes "djb2") 32 false djb2_of
row_of Sdbm = row 3 (codes "sdbm") 32 false (sdbm_from 0)
row_of LoseLose = row 4 (codes "loselose") 64 false (loselose_from 0)
row_of Bricolage = row 5 (codes "bricolage") 64 false (bricolage_from 0)
row_of Oaat = row 6 (codes "oaat") 64 false oaat_of
row_of Lookup3 = row 7 (codes "lookup3") 64 true lookup3_of
row_of Spooky = row 8 (codes "spooky") 64 false (λ text. (spooky 0 0 text).0)
row_of SpookyV1 = row 9 (codes "spooky_v1") 64 false (λ text. (spooky_v1 0 0 text).0)
row_of PassThrough = row 10 (codes "passthrough") 64 false (passthrough_from 0)
row_of FxHash = row 11 (codes "fxhash") 64 true (λ text. fx64 0 (words64 text))
row_of FxHash32 = row 12 (codes "fxhash32") 32 true (λ text. fx32 0 (words32 text))
row_of FxHash64 = row 13 (codes "fxhash64") 64 true (λ text. fx64 0 (words64 text))
row_of Null = row 21 (codes "null") 0 false (λ text. 0)

-- end of declared

-- what a hasher makes of a text in pieces of 4096 bytes
abbrev pub pieced : {S A : Type 0} (after : S → List ℕ → S) (fresh : S) (answer : S → A) → List ℕ → A
pieced after fresh answer text = answer (fold after fresh (cut 4096 text))

-- the hash of a text that is read: that of one call, but of lookup3 that of pieces of 4096 bytes
abbrev pub read_of : Ported → List ℕ → ℕ
read_of Lookup3 = pieced lookup3_from (0, 0) lookup3_answer
read_of ported = (row_of ported).hash

abbrev pub is_named : (name : List ℕ) → Ported → Bool
is_named name ported = bytes_eq (row_of ported).name name

-- the hash of that name, if there is one
unfoldable pub ported_named : List ℕ → Option Ported
ported_named name = find (is_named name) PORTED

-- the same, as what it makes of a text that is read
abbrev pub named : List ℕ → Option (List ℕ → ℕ)
named name = option_map read_of (ported_named name)

-- what came of hashing all that is left by the hash of a name; where no hash has the name nothing was read
abbrev pub HashesNamed : Option (List ℕ → ℕ) → Reading → Result ℕ NoHash → Type 0
HashesNamed None reading result = (result ≡ Err UnknownName) × Keeps reading.before reading.after
HashesNamed (Some hash) reading (Ok number) = Hashes hash reading (Ok number)
HashesNamed (Some hash) reading (Err UnknownName) = ⊥
HashesNamed (Some hash) reading (Err (Unhashed why)) = Hashes hash reading (Err why)
