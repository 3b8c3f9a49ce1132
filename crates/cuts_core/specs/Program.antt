-- What the program `cuts` is asked for, and how it ends.
use Rattle.std.specs.Prelude.{ℕ, ◌≡◌, ◌⊎◌, IsSome, Bool, true, false, List, [], ◌∷◌, Option, Some, None, Result, Ok, Err, codes}
use Rattle.std.specs.Io.KnownBytes.{Keeps}
use Rattle.cli.specs.Call.{Choice, Saying, flag, given, operands, taking, value_of}
use Rattle.cli.specs.Files.{Opens, files_or}
use Rattle.cli.specs.Frame.{EndsRequest, request_of}
use Rattle.cli.specs.Outcome.{of_run}
use Rattle.streams.specs.declared.failure.Failure.{Failure}
use Rattle.cli.specs.declared.frame.Text.{Text}
use Rattle.cli.specs.declared.outcome.Outcome.{Outcome}
use Rattle.cli.specs.declared.outcome.Outcome.TheVariants.{Usage, Reported}
use Rattle.cli.specs.declared.outcome.Wrong.{Wrong}
use Rattle.cli.specs.declared.outcome.Wrong.TheVariants.{UnknownName, Own}
use Rattle.cuts_core.specs.Listing.{EndsListing}
use Rattle.cuts_core.specs.Sizes.{fallen, no_size, sizes_of}
use Rattle.cuts_core.specs.Tally.{EndsTally}
use Rattle.cuts_core.specs.declared.failure.TooMany.{TooMany}
use Rattle.cuts_core.specs.declared.outcome.Misuse.{Misuse}
use Rattle.cuts_core.specs.declared.outcome.Misuse.TheVariants as misuse
use Rattle.cuts_core.specs.declared.outcome.Task.{Task}
use Rattle.cuts_core.specs.declared.sizes.Size.{Size}
use Rattle.cuts_core.specs.declared.sizes.Size.TheVariants.{Least, Average, Most}
use Rattle.cuts_core.specs.declared.sizes.Sizes.{Sizes}
use Rattle.hash_cuts.specs.Cuts.{Cutting, cutting}
use Rattle.hash_lines.specs.declared.sums.Sum.{Sum}
use Rattle.cli.specs.Keys.{HasKeys}
use Rattle.hash_lines.specs.Sums.{kind_of, kinds, sum_by}

-- the options
abbrev pub options : List Choice
options = taking (Some 97) (codes "algorithm") ∷ taking (Some 108) (codes "least") ∷ taking None (codes "average")
    ∷ taking (Some 109) (codes "most") ∷ taking None (codes "key-file") ∷ flag None (codes "stats") ∷ flag None (codes "quiet")
    ∷ flag None (codes "help") ∷ flag None (codes "version") ∷ []

-- what is to be done by these sizes and this hash
abbrev pub task_by : (call : List Saying) → Sizes → Option Sum → Result Task (Wrong Misuse)
task_by call sizes None = Err UnknownName
task_by call sizes (Some kind) = Ok (record { sizes = sizes; kind = kind; stats = given (codes "stats") call })

-- the same, unless a size is below 64 or below the one before it
abbrev pub task_unless : Option Size → Result Task (Wrong Misuse) → Result Task (Wrong Misuse)
task_unless None task = task
task_unless (Some size) task = Err (Own (misuse.Fallen size))

abbrev pub task_with : (call : List Saying) → Option Sizes → Result Task (Wrong Misuse)
task_with call None = Err (Own (misuse.NoSize (no_size call)))
task_with call (Some sizes) = task_unless (fallen sizes) (task_by call sizes (kind_of (kinds false) (value_of (codes "algorithm") call)))

-- which work a call asks for
abbrev pub task_of : (call : List Saying) → Result Task (Wrong Misuse)
task_of call = task_with call (sizes_of call)

-- where the cuts are, by the keys in a key file, or by zeros
abbrev pub cutting_of : Sizes → Option (ℕ × ℕ) → Cutting
cutting_of sizes None = cutting sizes.least sizes.average sizes.most 0 0
cutting_of sizes (Some keys) = cutting sizes.least sizes.average sizes.most keys.0 keys.1

-- how a run over the files of these names ends
abbrev pub EndsRun : (stats : Bool) → Sum → Cutting → Opens → (files : List (List ℕ)) (written written' : Option (List ℕ))
    → Result Bool (Failure TooMany) → Type 0
EndsRun true kind cuts opens files written written' ended = EndsTally (sum_by kind) cuts opens files written written' ended
EndsRun false kind cuts opens files written written' ended = EndsListing kind cuts opens files written written' ended

-- these are the keys in a key file, if there is one
abbrev pub AreKeysIn : Opens → (key_file : Option (List ℕ)) → (keys : Option (ℕ × ℕ)) → Type 0
AreKeysIn opens None keys = keys ≡ None
AreKeysIn opens (Some file) keys = (pair : ℕ × ℕ) × (keys ≡ Some pair) × HasKeys (opens file) pair

-- how a task ends: as the run by the keys in its key file, or without work if that has no keys. A wrong call writes nothing
abbrev pub EndsTask : Opens → (key_file : Option (List ℕ)) (files : List (List ℕ)) (written written' : Option (List ℕ))
    → Result Task (Wrong Misuse) → Outcome Misuse TooMany → Type 0
EndsTask opens key_file files written written' (Ok task) result =
    ((keys : Option (ℕ × ℕ)) × AreKeysIn opens key_file keys × (ended : Result Bool (Failure TooMany))
    × EndsRun task.stats task.kind (cutting_of task.sizes keys) opens files written written' ended × (result ≡ of_run ended))
    ⊎ (IsSome key_file × (result ≡ Reported) × Keeps written written')
EndsTask opens key_file files written written' (Err wrong) result = (result ≡ Usage wrong) × Keeps written written'

-- how the program ends whose call says this
abbrev pub EndsCall : Opens → (call : List Saying) (texts : Text → List ℕ) (written written' : Option (List ℕ))
    → Outcome Misuse TooMany → Type 0
EndsCall opens call texts written written' = EndsRequest (request_of call) texts
    (EndsTask opens (value_of (codes "key-file") call) (files_or (operands call)) written written' (task_of call)) (Unit {0}) written written'

-- what it says on standard error of what else is wrong with a call
abbrev pub words_of : Misuse → List ℕ
words_of (misuse.NoSize Least) = codes "--least must be a number of bytes, not"
words_of (misuse.NoSize Average) = codes "--average must be a number of bytes, not"
words_of (misuse.NoSize Most) = codes "--most must be a number of bytes, not"
words_of (misuse.Fallen Least) = codes "--least must be 64 or more, not"
words_of (misuse.Fallen Average) = codes "--average must be 64 or more, and no less than --least, not"
words_of (misuse.Fallen Most) = codes "--most must be no less than --average (by default 64K or 4 times -l), not"

-- the size that is at fault
abbrev pub at_fault : Misuse → Size
at_fault (misuse.NoSize size) = size
at_fault (misuse.Fallen size) = size

-- and of its own fault
abbrev pub words_of_fault : TooMany → List ℕ
words_of_fault fault = codes "too many bytes"
