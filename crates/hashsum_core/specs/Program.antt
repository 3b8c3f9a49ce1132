-- What the program `hashsum` is asked for, and how it ends.
use Rattle.std.specs.Prelude.{ℕ, ◌≡◌, ◌||◌, ◌&&◌, ◌⊎◌, not, if◌then◌else◌, IsSome, Bool, true, false, List, [], ◌∷◌, Option, Some, None, Result, Ok, Err, is_some, codes}
use Rattle.std.specs.Io.KnownBytes.{Keeps}
use Rattle.std.specs.Option.{option_or}
use Rattle.hash_lines.specs.declared.line.Form.TheVariants.{Tagged, Untagged}
use Rattle.hash_lines.specs.declared.sums.Sum.{Sum}
use Rattle.cli.specs.Call.{Choice, Saying, flag, given, given_last, operands, taking, value_of}
use Rattle.cli.specs.Frame.{EndsRequest, request_of}
use Rattle.streams.specs.declared.failure.Failure.{Failure}
use Rattle.streams.specs.declared.failure.Failure.TheVariants.{NoMemory}
use Rattle.cli.specs.declared.frame.Text.{Text}
use Rattle.streams.specs.declared.failure.Nothing.{Nothing}
use Rattle.cli.specs.declared.outcome.Outcome.{Outcome}
use Rattle.cli.specs.declared.outcome.Outcome.TheVariants.{Usage, Reported, Failed}
use Rattle.cli.specs.declared.outcome.Wrong.{Wrong}
use Rattle.cli.specs.declared.outcome.Wrong.TheVariants.{UnknownName, Own}
use Rattle.hashsum_core.specs.declared.check.Checking.{Checking}
use Rattle.hashsum_core.specs.declared.keys.KeyRule.{KeyRule}
use Rattle.hashsum_core.specs.declared.keys.KeyRule.TheVariants.{Any, Poly61}
use Rattle.hashsum_core.specs.declared.outcome.Misuse.{Misuse}
use Rattle.hashsum_core.specs.declared.outcome.Misuse.TheVariants as misuse
use Rattle.hashsum_core.specs.declared.outcome.Task.{Task}
use Rattle.hashsum_core.specs.declared.outcome.Task.TheVariants as task
use Rattle.hashsum_core.specs.declared.sum.Summing.{Summing}
use Rattle.cli.specs.Files.{Opens, files_or}
use Rattle.cli.specs.Outcome.{of_run}
use Rattle.hashsum_core.specs.Keys.{AreKeysFor}
use Rattle.hashsum_core.specs.Lists.{EndsLists}
use Rattle.hashsum_core.specs.Summing.{EndsSums}
use Rattle.hash_lines.specs.Sums.{is_named, kind_of, kinds}

-- the options
abbrev pub options : List Choice
options = taking (Some 97) (codes "algorithm") ∷ taking None (codes "key-file") ∷ flag (Some 99) (codes "check")
    ∷ flag None (codes "tag") ∷ flag None (codes "untagged") ∷ flag (Some 122) (codes "zero") ∷ flag None (codes "quiet")
    ∷ flag None (codes "status") ∷ flag None (codes "strict")
    ∷ flag None (codes "ignore-missing") ∷ flag (Some 119) (codes "warn") ∷ flag (Some 98) (codes "binary") ∷ flag (Some 116) (codes "text")
    ∷ flag None (codes "list") ∷ flag None (codes "help") ∷ flag None (codes "version") ∷ []

-- the hash that a call asks for by its name, or by a key file alone, which asks for poly61
abbrev pub asked : (call : List Saying) → Option (List ℕ)
asked call = option_or (value_of (codes "algorithm") call) (if given (codes "key-file") call then Some (codes "poly61") else None)

-- how lines are checked by a hash, under these keys
abbrev pub checking_of : (call : List Saying) → Option (ℕ × ℕ) → Sum → Checking
checking_of call keys kind = record {
  kind = kind;
  keys = keys;
  only = is_some (asked call);
  quiet = given (codes "quiet") call;
  status = given (codes "status") call;
  strict = given (codes "strict") call;
  ignore_missing = given (codes "ignore-missing") call;
  warn = given (codes "warn") call;
}

-- how files are summed by a hash, under these keys; of the options on the form of a line the last counts
abbrev pub summing_of : (call : List Saying) → Option (ℕ × ℕ) → Sum → Summing
summing_of call keys kind = record {
  kind = kind;
  keys = keys;
  form = if given_last (codes "untagged") (codes "tag") call then Untagged else Tagged;
  zero = given (codes "zero") call;
}

-- whether an option is given on how lines are written, or on how they are checked
abbrev pub gives_writing : (call : List Saying) → Bool
gives_writing call = given (codes "zero") call || given (codes "tag") call || given (codes "untagged") call

abbrev pub gives_checking : (call : List Saying) → Bool
gives_checking call = given (codes "status") call || given (codes "strict") call || given (codes "ignore-missing") call
    || given (codes "warn") call

-- whether the hash that is asked for, if one is, is that of a name
abbrev pub is_by_name : (name : List ℕ) → Option (List ℕ) → Bool
is_by_name name None = false
is_by_name name (Some word) = is_named word name

abbrev pub asks_for : (name : List ℕ) → (call : List Saying) → Bool
asks_for name call = is_by_name name (asked call)

abbrev pub asks_for_poly61 : (call : List Saying) → Bool
asks_for_poly61 call = asks_for (codes "poly61") call

abbrev pub asks_for_siphash24 : (call : List Saying) → Bool
asks_for_siphash24 call = asks_for (codes "siphash24") call

-- which keys the key file may have
abbrev pub key_rule : (call : List Saying) → KeyRule
key_rule call = if asks_for_siphash24 call then Any else Poly61

-- whether a hash that takes keys is asked for
abbrev pub asks_for_keyed : (call : List Saying) → Bool
asks_for_keyed call = asks_for_poly61 call || asks_for_siphash24 call

-- what is wrong with a call, but for the name of a hash
abbrev pub misuse_of : (call : List Saying) → Option Misuse
misuse_of call =
    let checks = given (codes "check") call in
    let keyed = given (codes "key-file") call in
    if checks && gives_writing call then Some misuse.NotWithCheck
    else if not checks && gives_checking call then Some misuse.OnlyWithCheck
    else if asks_for_keyed call && not keyed then Some misuse.NeedsKeyFile
    else if keyed && not (asks_for_keyed call) then Some misuse.UnusedKeyFile
    else None

-- what is to be done by a hash, under these keys
abbrev pub work_of : (call : List Saying) → Option (ℕ × ℕ) → Sum → Task
work_of call keys kind =
    if given (codes "check") call then task.Check (checking_of call keys kind) else task.Sum (summing_of call keys kind)

-- the same, if there is such a hash
abbrev pub work_by : (call : List Saying) → Option (ℕ × ℕ) → Option Sum → Result Task (Wrong Misuse)
work_by call keys None = Err UnknownName
work_by call keys (Some kind) = Ok (work_of call keys kind)

-- which work a call asks for
abbrev pub task_of : (call : List Saying) → Option (ℕ × ℕ) → Result Task (Wrong Misuse)
task_of call keys = work_by call keys (kind_of (kinds true) (asked call))

-- the hashes whose lines are taken: the one that is asked for, or all; also without keys lines of those that take them are known, which
-- then never pass
abbrev pub taken : Checking → List Sum
taken checking = if checking.only then checking.kind ∷ [] else kinds true

-- how a task ends over the files of these names; a wrong call writes nothing
abbrev pub EndsTask : Opens → (files : List (List ℕ)) (written written' : Option (List ℕ)) → Result Task (Wrong Misuse)
    → Outcome Misuse Nothing → Type 0
EndsTask opens files written written' (Ok (task.Sum summing)) result =
    (ended : Result Bool (Failure Nothing)) × EndsSums summing opens files written written' ended × (result ≡ of_run ended)
EndsTask opens files written written' (Ok (task.Check checking)) result =
    (ended : Result Bool (Failure Nothing)) × EndsLists (taken checking) checking opens files written written' ended
    × (result ≡ of_run ended)
EndsTask opens files written written' (Err wrong) result = (result ≡ Usage wrong) × Keeps written written'

-- the key file of a call, if it gives one
abbrev pub key_file : (call : List Saying) → Option (List ℕ)
key_file call = value_of (codes "key-file") call

-- how the work of a call ends, under the keys of its key file; or it has no such keys or there is no memory, and nothing is written
abbrev pub EndsWork : Opens → (call : List Saying) (written written' : Option (List ℕ)) → Outcome Misuse Nothing → Type 0
EndsWork opens call written written' result =
    ((keys : Option (ℕ × ℕ)) × AreKeysFor (key_rule call) opens (key_file call) keys
    × EndsTask opens (files_or (operands call)) written written' (task_of call keys) result)
    ⊎ (IsSome (key_file call) × (result ≡ Reported) × Keeps written written')
    ⊎ ((result ≡ Failed NoMemory) × Keeps written written')

-- the same, unless something is wrong with the call but for the name of a hash
abbrev pub EndsUnless : Option Misuse → Opens → (call : List Saying) (written written' : Option (List ℕ)) → Outcome Misuse Nothing
    → Type 0
EndsUnless None opens call written written' result = EndsWork opens call written written' result
EndsUnless (Some misuse) opens call written written' result = (result ≡ Usage (Own misuse)) × Keeps written written'

-- how the program ends whose call says this
abbrev pub EndsCall : Opens → (call : List Saying) (texts : Text → List ℕ) (written written' : Option (List ℕ))
    → Outcome Misuse Nothing → Type 0
EndsCall opens call texts written written' =
    EndsRequest (request_of call) texts (EndsUnless (misuse_of call) opens call written written') (Unit {0}) written written'

-- what it says on standard error of what else is wrong with a call
abbrev pub words_of : Misuse → List ℕ
words_of misuse.NotWithCheck = codes "-z, --tag and --untagged do not go with -c"
words_of misuse.OnlyWithCheck = codes "--status, --strict, --ignore-missing and -w go with -c alone"
words_of misuse.NeedsKeyFile = codes "poly61 and siphash24 need --key-file"
words_of misuse.UnusedKeyFile = codes "--key-file goes with poly61 and siphash24 alone"
