-- The numbers of files.
use Rattle.std.specs.Prelude.{ℕ, ◌≡◌, ◌-◌, ◌^◌, List, Option, Result, Ok, Err, unwrap_or}
use Rattle.std.specs.declared.io.Error.{Error}
use Rattle.hash_laws.specs.Limited.{Hashes, Reading, ReadsAll}
use Rattle.hash_lines.specs.Sums.{sum_of}
use Rattle.hash_lines.specs.declared.sums.Sum.{Sum}
use Rattle.hashsum_core.specs.declared.sum.Unsummed.{Unsummed}
use Rattle.hashsum_core.specs.declared.sum.Unsummed.TheVariants.{Unhashed, Unopened}

-- what a hash makes of a text under the keys of a key file, or under zeros if there is none
abbrev pub sum_under : Option (ℕ × ℕ) → Sum → List ℕ → ℕ
sum_under keys = sum_of (unwrap_or keys (0, 0))

-- a file that holds this is read from its beginning, up to the greatest length
abbrev pub from_start : (held left : Option (List ℕ)) → Reading
from_start held left = record { limit = 2 ^ 64 - 1; before = held; after = left }

-- all that a file holds was read, and is this text, where it is known what it holds
abbrev pub ReadsFile : Option (List ℕ) → List ℕ → Type 0
ReadsFile held text = (left : Option (List ℕ)) × ReadsAll (from_start held left) text

-- the number of a file is the hash of the text that was read of it
abbrev pub IsNumber : (List ℕ → ℕ) → (held : Option (List ℕ)) → ℕ → Type 0
IsNumber hash held number = (text : List ℕ) × ReadsFile held text × (number ≡ hash text)

-- what comes of a file: its number, or it was not opened, or what it holds was not read to the end
abbrev pub SumsFile : (opens : Result (Option (List ℕ)) Error → Type 0) → (List ℕ → ℕ) → Result ℕ Unsummed → Type 0
SumsFile opens hash (Ok number) = (held : Option (List ℕ)) × opens (Ok held) × IsNumber hash held number
SumsFile opens hash (Err (Unopened error)) = opens (Err error)
SumsFile opens hash (Err (Unhashed why)) =
    (held left : Option (List ℕ)) × opens (Ok held) × Hashes hash (from_start held left) (Err why)
