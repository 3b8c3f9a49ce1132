-- The lines of chunks.
use Rattle.std.specs.Prelude.{ℕ, ◌≡◌, ◌+◌, ◌++◌, Bool, true, List, [], ◌∷◌, Option, Some, None, Result, Ok, Err, length, map, decimal}
use Rattle.std.specs.List.{concat}
use Rattle.std.specs.Io.Buffered.{writer_buffer, writer_contents}
use Rattle.std.specs.Io.KnownBytes.{Appends}
use Rattle.cli.specs.Files.{Opens}
use Rattle.streams.specs.Streams.{AppendsPart}
use Rattle.streams.specs.declared.failure.Failure.{Failure}
use Rattle.cuts_core.specs.Cut.{AreTorn, Cut, IsCut, IsFileCut, IsTornBy, given_of, is_whole, name_of, one}
use Rattle.cuts_core.specs.declared.failure.TooMany.{TooMany}
use Rattle.cuts_core.specs.declared.listing.Lines.{Lines}
use Rattle.hash_cuts.specs.Cuts.{Cutting}
use Rattle.hash_cuts.specs.Reading.{Taken}
use Rattle.hash_lines.specs.Line.{line_of}
use Rattle.hash_lines.specs.declared.line.Form.TheVariants.{Untagged}
use Rattle.hash_lines.specs.declared.sums.Sum.{Sum}
use Rattle.hash_lines.specs.Sums.{sum_by}
use Rattle.cli.specs.Told.{AreTold}

-- the line of a chunk: where it begins in its file, how many bytes it has, and its hash with the file's name, as lines of hashes have them
abbrev pub chunk_line : Sum → (name : List ℕ) (place : ℕ) (chunk : List ℕ) → List ℕ
chunk_line kind name place chunk =
    (decimal place ++ 32 ∷ []) ++ ((decimal (length chunk) ++ 32 ∷ [])
    ++ (line_of Untagged true kind name (sum_by kind chunk) ++ 10 ∷ []))

-- the lines of chunks that stand one behind the other, the first at this place
abbrev pub chunk_lines : Sum → (name : List ℕ) (place : ℕ) → List (List ℕ) → List ℕ
chunk_lines kind name place [] = []
chunk_lines kind name place (chunk ∷ more) = chunk_line kind name place chunk ++ chunk_lines kind name (place + length chunk) more

-- the lines of a file
abbrev pub lines_of : Sum → Cut → List ℕ
lines_of kind file = chunk_lines kind (name_of file) 0 (given_of file)

-- the lines of chunks from one place to another were written, and of one behind them a beginning, if one was refused
abbrev pub AreListed : Sum → (name : List ℕ) (from to : ℕ) (written written' : Option (List ℕ)) (given : List (List ℕ))
    (refused : Option (List ℕ)) → Type 0
AreListed kind name from to written written' given None =
    (to ≡ from + length (concat given)) × Appends written written' (chunk_lines kind name from given)
AreListed kind name from to written written' given (Some chunk) = AppendsPart written written' (chunk_lines kind name from (given ++ chunk ∷ []))

-- the same of a sink that writes lines, since a start; where it refused none, nothing of them is held back
abbrev pub ListsChunks : {W : Type 0} (contents : W → Option (List ℕ)) → Taken (Lines W)
ListsChunks contents start now given refused = (now.kind ≡ start.kind)
    × (now.name.now ≡ start.name.now) × AreListed start.kind start.name.now start.place now.place
    (writer_contents contents start.w) (writer_contents contents now.w) given refused
    × (refused ≡ None → writer_buffer start.w ≡ [] → writer_buffer now.w ≡ [])

-- how the lines of a file end: those of its chunks were written; or of the first ones, and of one that was refused, a beginning, and where
-- none was refused there was no memory
abbrev pub EndsLines : Sum → Cutting → Opens → (name : List ℕ) (written written' : Option (List ℕ)) → Result Bool (Failure TooMany) → Type 0
EndsLines kind cuts opens name written written' (Ok whole) = (given : List (List ℕ)) × IsCut cuts (opens name) given whole
    × Appends written written' (lines_of kind (name, (given, whole)))
EndsLines kind cuts opens name written written' (Err fault) = (given : List (List ℕ)) × (refused : Option (List ℕ))
    × AreTorn cuts (opens name) given refused × IsTornBy refused fault × AppendsPart written written' (chunk_lines kind name 0 (given ++ one refused))

-- the lines of the first files were written, and of the next a beginning
pub record AreTornOff (kind : Sum) (cuts : Cutting) (opens : Opens) (names : List (List ℕ)) (written written' : Option (List ℕ))
    (fault : Failure TooMany) : Type 0 where
  pub told : List Cut
  pub between : Option (List ℕ)
  pub all : Bool
  pub name : List ℕ
  pub others : List (List ℕ)
  pub names_are : map name_of told ++ (name ∷ others) ≡ names
  pub so_far : AreTold name_of (IsFileCut cuts opens) (lines_of kind) is_whole (map name_of told) told written between all
  pub last : EndsLines kind cuts opens name between written' (Err fault)

-- how a run over the files of these names ends: their lines were written, in their order, or a beginning of them
abbrev pub EndsListing : Sum → Cutting → Opens → (names : List (List ℕ)) (written written' : Option (List ℕ))
    → Result Bool (Failure TooMany) → Type 0
EndsListing kind cuts opens names written written' (Ok all) = (told : List Cut)
    × AreTold name_of (IsFileCut cuts opens) (lines_of kind) is_whole names told written written' all
EndsListing kind cuts opens names written written' (Err fault) = AreTornOff kind cuts opens names written written' fault
