-- How much a store would save that keeps each chunk once.
use Rattle.std.specs.Prelude.{ℕ, ◌≡◌, ◌⊎◌, ◌==◌, ◌-◌, ◌++◌, Bool, not, List, [], ◌∷◌, Option, Result, Ok, Err, length, map, decimal, codes, All}
use Rattle.std.specs.List.{concat, filter, flat_map, list_all}
use Rattle.std.specs.Io.KnownBytes.{Appends, Keeps}
use Rattle.cli.specs.Files.{Opens}
use Rattle.streams.specs.Streams.{AppendsPart}
use Rattle.streams.specs.declared.failure.Failure.{Failure}
use Rattle.cuts_core.specs.Cut.{Cut, IsFileCut, given_of, is_whole, name_of}
use Rattle.cuts_core.specs.declared.failure.TooMany.{TooMany}
use Rattle.hash_cuts.specs.Cuts.{Cutting}

-- the chunks whose hash no chunk before them has
abbrev pub firsts : (hash : List ℕ → ℕ) → List (List ℕ) → List (List ℕ)
firsts hash [] = []
firsts hash (chunk ∷ more) = chunk ∷ filter (λ other. not (hash other == hash chunk)) (firsts hash more)

-- how many bytes chunks have
abbrev pub bytes_of : List (List ℕ) → ℕ
bytes_of given = length (concat given)

-- the line of a number
abbrev pub number_line : (word : List ℕ) (number : ℕ) → List ℕ
number_line word number = word ++ (decimal number ++ 10 ∷ [])

abbrev pub numbers_of : (chunks bytes repeated : ℕ) → List ℕ
numbers_of chunks bytes repeated = number_line (codes "chunks: ") chunks ++ (number_line (codes "bytes: ") bytes
    ++ number_line (codes "repeated bytes: ") repeated)

-- how many chunks there are, their bytes, and the bytes of those whose hash came before
abbrev pub tally_lines : (hash : List ℕ → ℕ) → List (List ℕ) → List ℕ
tally_lines hash given = numbers_of (length given) (bytes_of given) (bytes_of given - bytes_of (firsts hash given))

-- these came of the files of these names, and whether each was read to its end
pub record AreCut (cuts : Cutting) (opens : Opens) (names : List (List ℕ)) (files : List Cut) (all : Bool) : Type 0 where
  pub names_are : map name_of files ≡ names
  pub each : All (IsFileCut cuts opens) files
  pub all_is : all ≡ list_all is_whole files

-- the chunks of all files
abbrev pub all_given : List Cut → List (List ℕ)
all_given files = flat_map given_of files

-- how a run over the files of these names ends: the numbers of their chunks were written; or a beginning of them, or nothing
abbrev pub EndsTally : (hash : List ℕ → ℕ) → Cutting → Opens → (names : List (List ℕ)) (written written' : Option (List ℕ))
    → Result Bool (Failure TooMany) → Type 0
EndsTally hash cuts opens names written written' (Ok all) = (files : List Cut) × AreCut cuts opens names files all
    × Appends written written' (tally_lines hash (all_given files))
EndsTally hash cuts opens names written written' (Err fault) = Keeps written written'
    ⊎ ((files : List Cut) × (all : Bool) × AreCut cuts opens names files all × AppendsPart written written' (tally_lines hash (all_given files)))
