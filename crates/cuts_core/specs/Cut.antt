-- What comes of cutting a file.
use Rattle.std.specs.Prelude.{ℕ, ◌≡◌, ◌<◌, ◌⊎◌, Bool, true, false, List, [], ◌∷◌, Option, Some, None, Result, Ok, Err, length, take, ⊤}
use Rattle.std.specs.Io.KnownBytes.{Consumes, IsAtEnd}
use Rattle.std.specs.declared.io.Error.{Error}
use Rattle.cli.specs.Files.{Opens}
use Rattle.hash_cuts.specs.Cuts.{Cutting, chunks, first_cut}
use Rattle.hash_cuts.specs.Reading.{IsBegun, Taken, Takes}
use Rattle.cuts_core.specs.declared.failure.TooMany.{TooMany}
use Rattle.streams.specs.Records.{ComeFirst}
use Rattle.streams.specs.declared.failure.Failure.{Failure}
use Rattle.streams.specs.declared.failure.Failure.TheVariants.{NoMemory, Own}

-- what comes of opening a file
abbrev pub Opening : Type 1
Opening = Result (Option (List ℕ)) Error → Type 0

-- this text was read of a file that was opened, and more may be left of it
pub record IsRead (opens : Opening) (text : List ℕ) (left : Option (List ℕ)) : Type 0 where
  pub held : Option (List ℕ)
  pub opened : opens (Ok held)
  pub read : Consumes held left text

-- these are the chunks of a file that was read to its end
abbrev pub AreChunks : Cutting → Opening → List (List ℕ) → Type 0
AreChunks cuts opens given = (text : List ℕ) × (left : Option (List ℕ)) × IsRead opens text left × IsAtEnd left × (given ≡ chunks cuts text)

-- these are the chunks that end within the text that was read of a file, before the rest of it
abbrev pub AreFirst : Cutting → Opening → List (List ℕ) → (rest : List ℕ) → Type 0
AreFirst cuts opens given rest = (text : List ℕ) × (left : Option (List ℕ)) × IsRead opens text left
    × ComeFirst (chunks cuts) text given rest

-- the chunks of a file: all; or it was not opened, or not read to its end, and they are all but the one that was begun
abbrev pub IsCut : Cutting → Opening → (given : List (List ℕ)) (whole : Bool) → Type 0
IsCut cuts opens given true = AreChunks cuts opens given
IsCut cuts opens given false = ((error : Error) × opens (Err error) × (given ≡ []))
    ⊎ ((rest : List ℕ) × AreFirst cuts opens given rest × IsBegun cuts rest)

-- the chunk, if there is one
abbrev pub one : Option (List ℕ) → List (List ℕ)
one None = []
one (Some chunk) = chunk ∷ []

-- the first chunk of the rest was refused, or none, where one was begun
abbrev pub IsNext : Cutting → (rest : List ℕ) → (refused : Option (List ℕ)) → Type 0
IsNext cuts rest None = IsBegun cuts rest
IsNext cuts rest (Some chunk) = (0 < length rest) × (chunk ≡ take (first_cut cuts rest) rest)

-- these are the first chunks of a file, of which the one behind them was refused, or none
abbrev pub AreTorn : Cutting → Opening → (given : List (List ℕ)) (refused : Option (List ℕ)) → Type 0
AreTorn cuts opens given refused = (rest : List ℕ) × AreFirst cuts opens given rest × IsNext cuts rest refused

-- there are too many bytes, where that is why
abbrev pub IsManyOnly : (many : Type 0) → Failure TooMany → Type 0
IsManyOnly many (Own too_many) = many
IsManyOnly many fault = ⊤

-- a file is torn by a refused chunk, or else by want of memory
abbrev pub IsTornBy : (refused : Option (List ℕ)) → Failure TooMany → Type 0
IsTornBy refused fault = refused ≡ None → fault ≡ NoMemory

-- a sink was given these chunks of a file, and refused the one behind them, or none
pub record IsTorn {S : Type 0} (taken : Taken S) (cuts : Cutting) (opens : Opening) (old new : S) (fault : Failure TooMany) : Type 0 where
  pub given : List (List ℕ)
  pub refused : Option (List ℕ)
  pub takes : Takes taken old new given refused
  pub torn : AreTorn cuts opens given refused
  pub why : IsTornBy refused fault

-- how a file ends whose chunks a sink is given
abbrev pub EndsFile : {S : Type 0} → Taken S → Cutting → Opening → (old new : S) → Result Bool (Failure TooMany) → Type 0
EndsFile taken cuts opens old new (Ok whole) =
    (given : List (List ℕ)) × IsCut cuts opens given whole × Takes taken old new given None
EndsFile taken cuts opens old new (Err fault) = IsTorn taken cuts opens old new fault

-- a file with its chunks, and whether it was read to its end
abbrev pub Cut : Type 0
Cut = List ℕ × (List (List ℕ) × Bool)

abbrev pub name_of : Cut → List ℕ
name_of file = file.0

abbrev pub given_of : Cut → List (List ℕ)
given_of file = file.1.0

abbrev pub is_whole : Cut → Bool
is_whole file = file.1.1

abbrev pub IsFileCut : Cutting → Opens → Cut → Type 0
IsFileCut cuts opens file = IsCut cuts (opens (name_of file)) (given_of file) (is_whole file)
