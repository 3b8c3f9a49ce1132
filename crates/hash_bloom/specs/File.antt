-- A filter in a file.
use Rattle.std.specs.Prelude.{ℕ, ◌≡◌, ◌<◌, ◌^◌, List, ◌++◌, slice_index, Option, Some, ⊤, codes}
use Rattle.std.specs.List.{flat_map}
use mir.Syntax.{w64}
use Rattle.std.specs.Int.{to_le_bytes}
use Rattle.hashers.specs.Fnv.{fnv1a64_of}
use Rattle.streams.specs.Hex.{hex}
use Rattle.hash_bloom.specs.Filter.{Filter, IsFilter}
use Rattle.hash_bloom.specs.declared.file.Unread.{Unread}
use Rattle.hash_bloom.specs.declared.file.Unread.TheVariants as why

-- a number in the first line, in so many digits
unfoldable pub field : (digits number : ℕ) → List ℕ
field digits number = hex digits number ++ codes " "

-- what a file begins with: whose form it is, and its version
abbrev pub title : List ℕ
title = codes "hashers-bloom 2 "

-- the first line
unfoldable pub header : (bits probes : ℕ) (pair : List ℕ) → List ℕ
header bits probes pair = title ++ (field 16 bits ++ (field 8 probes ++ (pair ++ codes "\n")))

-- words in 8 bytes each, the lowest byte first
abbrev pub bytes_of : List ℕ → List ℕ
bytes_of words = flat_map (to_le_bytes w64) words

-- the hash of a text, in 8 bytes with the lowest first
abbrev pub seal : List ℕ → List ℕ
seal text = to_le_bytes w64 (fnv1a64_of text)

-- a text, and its hash behind it
unfoldable pub sealed : List ℕ → List ℕ
sealed text = text ++ seal text

-- the file of a filter
abbrev pub file_of : (pair : List ℕ) → Filter → List ℕ
file_of pair filter = sealed (header filter.bits filter.probes pair ++ bytes_of filter.words)

-- a filter in the integers that a program has
pub record IsStored (filter : Filter) : Type 0 where
  pub is_filter : IsFilter filter
  pub bits : filter.bits < 2 ^ 64
  pub probes : filter.probes < 2 ^ 32
  pub words : (i : ℕ) → slice_index filter.words i < 2 ^ 64

-- known bytes do not begin with these
abbrev pub BeginsNot : Option (List ℕ) → List ℕ → Type 0
BeginsNot known text = (rest : List ℕ) → known ≡ Some (text ++ rest) → ⊥

-- no filter of this pair is stored there: the form, its version, the pair or the hash is another
abbrev pub IsRefusal : Unread → Type 0
IsRefusal (why.Failed error) = ⊥
IsRefusal why.Form = ⊤
IsRefusal why.Version = ⊤
IsRefusal why.Pair = ⊤
IsRefusal why.Hash = ⊤
