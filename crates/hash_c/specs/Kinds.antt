-- Hashes by their numbers, and their names.
use Rattle.std.specs.Prelude.{ℕ, List, [], Option, Some, None, slice_get}
use Rattle.hash_kinds.specs.declared.table.Kind.{Kind}
use Rattle.hash_kinds.specs.declared.table.TheConstants.{KINDS}
use Rattle.hash_kinds.specs.Named.{hash_of, name_of, row_of}

abbrev pub number_of : Kind → ℕ
number_of kind = (row_of kind).number

-- the hash of that number, if there is one
unfoldable pub kind_at : ℕ → Option Kind
kind_at number = slice_get KINDS number

-- what it makes of a text in one call; 0 where there is none
abbrev pub hash_of_option : Option Kind → List ℕ → ℕ
hash_of_option (Some kind) = hash_of kind
hash_of_option None = λ text. 0

abbrev pub hash_at : ℕ → List ℕ → ℕ
hash_at number = hash_of_option (kind_at number)

-- the name of a hash, if there is one
abbrev pub name_in : Option Kind → List ℕ
name_in (Some kind) = name_of kind
name_in None = []

-- the name of the hash of that number; no bytes where no hash has it
abbrev pub name_at : ℕ → List ℕ
name_at number = name_in (kind_at number)
