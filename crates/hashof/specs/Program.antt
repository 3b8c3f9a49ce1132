-- How the program ends.
use Rattle.std.specs.Prelude.{ℕ, ◌≡◌, ◌≢◌, List, [], ◌∷◌, map, length, Result, Ok, Err, string_bytes}
use Rattle.std.specs.IoError.{error_kind}
use Rattle.std.specs.Vec.Iter.{into_iter_items}
use Rattle.std.specs.declared.alloc.Global.{Global}
use Rattle.std.specs.declared.io.Error.{Error}
use Rattle.std.specs.declared.io.ErrorKind.TheVariants.{OutOfMemory}
use Rattle.std.specs.declared.string.String.{String}
use Rattle.std.specs.declared.vec.IntoIter.{IntoIter}
use Rattle.hashof.specs.declared.outcome.Outcome.{Outcome}
use Rattle.hashof.specs.declared.outcome.Outcome.TheVariants.{Done, Usage, NoMemory, Failed}
use Rattle.hashof.specs.Running.{Run, IsUntouched, Ends}
use Rattle.hashof.specs.Status.{status_of}

-- the program's arguments, its own name first, or why they were not had
abbrev pub Arguments : Type 0
Arguments = Result (IntoIter (String Global) Global) Error

-- they are the program's own name and this one
abbrev pub Ask : Arguments → List ℕ → Type 0
Ask (Ok arguments) name = (own : List ℕ) × (map string_bytes (into_iter_items arguments) ≡ own ∷ name ∷ [])
Ask (Err error) name = ⊥

-- they are more or fewer, or no text
abbrev pub AreWrong : Arguments → Type 0
AreWrong (Ok arguments) = length (into_iter_items arguments) ≢ 2
AreWrong (Err error) = error_kind error ≢ OutOfMemory

-- there was no memory for them
abbrev pub LackMemory : Arguments → Type 0
LackMemory (Ok arguments) = ⊥
LackMemory (Err error) = error_kind error ≡ OutOfMemory

-- how the program ends: as the run over the one name, or with nothing read or written
abbrev pub Exits : Arguments → Run → Outcome → Type 0
Exits arguments run Done = (name : List ℕ) × Ask arguments name × Ends name run (Ok tt)
Exits arguments run Usage = AreWrong arguments × IsUntouched run
Exits arguments run NoMemory = LackMemory arguments × IsUntouched run
Exits arguments run (Failed fault) = (name : List ℕ) × Ask arguments name × Ends name run (Err fault)

-- the status of a program that some arguments asked for some run
pub record IsStatus (status : ℕ) : Type 0 where
  pub arguments : Arguments
  pub run : Run
  pub outcome : Outcome
  pub exits : Exits arguments run outcome
  pub is : status ≡ status_of outcome
