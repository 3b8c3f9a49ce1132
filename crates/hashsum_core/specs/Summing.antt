-- The lines of files.
use Rattle.std.specs.Prelude.{ℕ, ◌≡◌, if◌then◌else◌, not, Bool, List, [], ◌∷◌, ◌++◌, Option, Some, None, Result, Ok, Err, MatchOption, is_some}
use Rattle.std.specs.Io.KnownBytes.{Appends}
use Rattle.hash_lines.specs.Line.{line_of}
use Rattle.streams.specs.Streams.{AppendsPart}
use Rattle.streams.specs.declared.failure.Failure.{Failure}
use Rattle.streams.specs.declared.failure.Nothing.{Nothing}
use Rattle.hashsum_core.specs.declared.sum.Summing.{Summing}
use Rattle.hashsum_core.specs.declared.sum.Unsummed.{Unsummed}
use Rattle.cli.specs.Files.{Opens}
use Rattle.hashsum_core.specs.Files.{SumsFile, sum_under}
use Rattle.cli.specs.Told.{AreTold, AreTornOff}

-- the line of a file, with its end
abbrev pub sum_line : Summing → (name : List ℕ) (number : ℕ) → List ℕ
sum_line summing name number =
    line_of summing.form (not summing.zero) summing.kind name number ++ (if summing.zero then 0 else 10) ∷ []

-- the line of a file that has a number
abbrev pub line_told : Summing → List ℕ × Option ℕ → List ℕ
line_told summing (name, None) = []
line_told summing (name, Some number) = sum_line summing name number

-- a file has its number, or it failed
abbrev pub IsSummed : Summing → Opens → List ℕ × Option ℕ → Type 0
IsSummed summing opens file = let sums = SumsFile (opens file.0) (sum_under summing.keys summing.kind) in
    MatchOption file.1 ((why : Unsummed) × sums (Err why)) (λ number. sums (Ok number))

-- how the line of a file is told: it was written, or a beginning of it, or the file failed
abbrev pub EndsSum : Summing → Opens → (name : List ℕ) (written written' : Option (List ℕ))
    → Result Bool (Failure Nothing) → Type 0
EndsSum summing opens name written written' (Ok read) = (number : Option ℕ) × IsSummed summing opens (name, number)
    × Appends written written' (line_told summing (name, number)) × (read ≡ is_some number)
EndsSum summing opens name written written' (Err fault) = (number : Option ℕ) × IsSummed summing opens (name, number)
    × AppendsPart written written' (line_told summing (name, number))

-- how a run over the files of these names ends: their lines were written, in their order, or a beginning of them
abbrev pub EndsSums : Summing → Opens → (names : List (List ℕ)) (written written' : Option (List ℕ))
    → Result Bool (Failure Nothing) → Type 0
EndsSums summing opens names written written' (Ok whole) = (told : List (List ℕ × Option ℕ)) × AreTold (λ file. file.0)
    (IsSummed summing opens) (line_told summing) (λ file. is_some file.1) names told written written' whole
EndsSums summing opens names written written' (Err fault) =
    AreTornOff (λ file. file.0) (IsSummed summing opens) (line_told summing) (λ file. is_some file.1) names written written'
