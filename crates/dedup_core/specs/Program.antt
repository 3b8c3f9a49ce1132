-- What the program is asked for, and how it ends.
use Rattle.std.specs.Prelude.{ℕ, ◌≡◌, ◌||◌, if◌then◌else◌, List, [], ◌∷◌, Some, None, Result, Ok, Err, codes}
use Rattle.cli.specs.Call.{Choice, Saying, flag, given}
use Rattle.cli.specs.Frame.{EndsRequest, request_of, text_of}
use Rattle.streams.specs.declared.failure.Failure.{Failure}
use Rattle.streams.specs.declared.failure.Nothing.{Nothing}
use Rattle.cli.specs.declared.outcome.Outcome.{Outcome}
use Rattle.cli.specs.declared.outcome.Outcome.TheVariants.{Done, Reported, Failed}
use Rattle.text_set.specs.Firsts.{once_by}
use Rattle.dedup_core.specs.Running.{Ends, EndsBehind, Run}
use Rattle.dedup_core.specs.Tallies.{told}
use Rattle.dedup_core.specs.declared.failure.TooMany.{TooMany}
use Rattle.dedup_core.specs.declared.run.Ended.{Ended}
use Rattle.dedup_core.specs.declared.run.Ended.TheVariants.{Whole, InputFailed}
use Rattle.dedup_core.specs.declared.outcome.Task.{Task}
use Rattle.dedup_core.specs.declared.outcome.Task.TheVariants.{Once, Tallied}
use Rattle.dedup_core.specs.declared.tally.Which.{Which}

-- the options
abbrev pub options : List Choice
options = flag (Some 99) (codes "count") ∷ flag (Some 100) (codes "repeated") ∷ flag (Some 117) (codes "unique")
    ∷ flag (Some 122) (codes "zero-terminated") ∷ flag None (codes "help") ∷ flag None (codes "version") ∷ []

-- which of the counted lines a call asks for
abbrev pub which_of : (call : List Saying) → Which
which_of call = record {
  counts = given (codes "count") call;
  repeated = given (codes "repeated") call;
  unique = given (codes "unique") call;
}

-- the byte that ends a line
abbrev pub eol_of : (call : List Saying) → ℕ
eol_of call = if given (codes "zero-terminated") call then 0 else 10

-- each line once, unless some of the counted ones are asked for
abbrev pub work_of : (call : List Saying) → Task
work_of call = if (which_of call).counts || (which_of call).repeated || (which_of call).unique then Tallied (which_of call)
    (eol_of call) else Once (eol_of call)

-- what came of a run
abbrev pub of_run : Result Ended (Failure TooMany) → Outcome Nothing TooMany
of_run (Ok Whole) = Done
of_run (Ok InputFailed) = Reported
of_run (Err fault) = Failed fault

-- as a run ends
abbrev pub EndsRun : (ends : Result Ended (Failure TooMany) → Type 0) → Outcome Nothing TooMany → Type 0
EndsRun ends result = (ended : Result Ended (Failure TooMany)) × ends ended × (result ≡ of_run ended)

-- how a task ends
abbrev pub EndsTask : Task → Run → Outcome Nothing TooMany → Type 0
EndsTask (Once eol) run result = EndsRun (Ends (once_by eol) eol run) result
EndsTask (Tallied which eol) run result = EndsRun (EndsBehind (told eol which) eol run) result

-- how the program ends whose call says this
abbrev pub Exits : (call : List Saying) (help version list : List ℕ) → Run → Outcome Nothing TooMany → Type 0
Exits call help version list run =
    EndsRequest (request_of call) (text_of help version list) (EndsTask (work_of call) run) (run.left' ≡ run.left)
    run.written run.written'
