-- How a program ends: its status, and what it says of a failure.
use Rattle.std.specs.Prelude.{ℕ, ◌≡◌, Bool, true, false, List, [], Some, Result, Ok, Err, codes}
use Rattle.std.specs.IoError.{error_kind}
use Rattle.std.specs.declared.io.ErrorKind.{ErrorKind}
use Rattle.std.specs.declared.io.ErrorKind.TheVariants.{BrokenPipe}
use Rattle.cli.specs.declared.call.Misgiven.{Misgiven}
use Rattle.cli.specs.declared.call.Misgiven.TheVariants.{NoSuchName, NoSuchLetter, NoValue, HasValue}
use Rattle.streams.specs.declared.failure.Failure.{Failure}
use Rattle.streams.specs.declared.failure.Failure.TheVariants as fault
use Rattle.cli.specs.declared.outcome.Outcome.{Outcome}
use Rattle.cli.specs.declared.outcome.Outcome.TheVariants.{Done, Usage, Reported, Failed}
use Rattle.cli.specs.declared.outcome.Wrong.TheVariants as wrong

-- 141 is what a shell tells of a program that a write to a closed pipe ended
abbrev pub write_status : ErrorKind → ℕ
write_status BrokenPipe = 141
write_status kind = 1

-- the status that each outcome ends with
abbrev pub status_of : {Misuse Own : Type 0} → Outcome Misuse Own → ℕ
status_of Done = 0
status_of (Usage wrong) = 2
status_of Reported = 1
status_of (Failed (fault.Unwritten (Some error))) = write_status (error_kind error)
status_of (Failed other) = 1

-- what is said of an option with which something is wrong, before the word that gives it
abbrev pub misgiven_words : Misgiven → List ℕ
misgiven_words NoSuchName = codes "unrecognized option"
misgiven_words NoSuchLetter = codes "invalid option --"
misgiven_words NoValue = codes "option"
misgiven_words HasValue = codes "option"

-- and behind that word
abbrev pub behind_of : {Misuse Own : Type 0} → Outcome Misuse Own → List ℕ
behind_of (Usage (wrong.Option NoValue)) = codes " requires an argument"
behind_of (Usage (wrong.Option HasValue)) = codes " doesn't allow an argument"
behind_of other = []

-- what it says on standard error that failed, before the word or the reason
abbrev pub failure_of : {Misuse Own : Type 0} (misuse_words : Misuse → List ℕ) (own_words : Own → List ℕ) → Outcome Misuse Own → List ℕ
failure_of misuse_words own_words Done = []
failure_of misuse_words own_words Reported = []
failure_of misuse_words own_words (Usage (wrong.Option misgiven)) = misgiven_words misgiven
failure_of misuse_words own_words (Usage wrong.UnknownName) = codes "unknown hash"
failure_of misuse_words own_words (Usage (wrong.Own misuse)) = misuse_words misuse
failure_of misuse_words own_words (Failed (fault.Unread error)) = codes "-"
failure_of misuse_words own_words (Failed (fault.Unwritten error)) = codes "write error"
failure_of misuse_words own_words (Failed fault.NoMemory) = codes "out of memory"
failure_of misuse_words own_words (Failed (fault.Own own)) = own_words own

-- what came of writing a text
abbrev pub of_telling : {Misuse Own : Type 0} → Result (Unit {0}) (Failure Own) → Outcome Misuse Own
of_telling (Ok done) = Done
of_telling (Err fault) = Failed fault

-- what came of a run over files: whether each was read, or what failed
abbrev pub of_run : {Misuse Own : Type 0} → Result Bool (Failure Own) → Outcome Misuse Own
of_run (Ok true) = Done
of_run (Ok false) = Reported
of_run (Err fault) = Failed fault

-- where all was done or told, nothing is held back
abbrev pub IsFlushed : {Misuse Own : Type 0} → (buffer : List ℕ) → Outcome Misuse Own → Type 0
IsFlushed buffer Done = buffer ≡ []
IsFlushed buffer Reported = buffer ≡ []
IsFlushed buffer other = Unit {0}
