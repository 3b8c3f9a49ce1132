-- What a call asks for, how it ends, and what is said of a failure.
use Rattle.std.specs.Prelude.{ℕ, ◌≡◌, ◌++◌, if◌then◌else◌, Bool, List, [], Option, Some, None, Result, codes}
use Rattle.std.specs.Io.KnownBytes.{Keeps}
use Rattle.streams.specs.declared.failure.Failure.{Failure}
use Rattle.cli.specs.declared.frame.Request.{Request}
use Rattle.cli.specs.declared.frame.Request.TheVariants as request
use Rattle.cli.specs.declared.frame.Text.{Text}
use Rattle.cli.specs.declared.frame.Text.TheVariants.{Help, Version, List as Listed}
use Rattle.cli.specs.declared.outcome.Outcome.{Outcome}
use Rattle.cli.specs.declared.outcome.Outcome.TheVariants.{Usage}
use Rattle.cli.specs.declared.outcome.Wrong.TheVariants as wrong
use Rattle.cli.specs.declared.call.Misgiven.{Misgiven}
use Rattle.cli.specs.Call.{Saying, first_of, given, wrongs}
use Rattle.cli.specs.Outcome.{of_telling}
use Rattle.streams.specs.Streams.{WritesOut}

-- what a call asks for in which this is wrong
abbrev pub request_beside : (wrong : Option (Misgiven × List ℕ)) → (call : List Saying) → Request
request_beside (Some wrong) call = request.Misgiven wrong.0
request_beside None call =
    if given (codes "help") call then request.Text Help
    else if given (codes "version") call then request.Text Version
    else if given (codes "list") call then request.Text Listed else request.Work

-- what a call asks for
abbrev pub request_of : (call : List Saying) → Request
request_of call = request_beside (first_of (wrongs call)) call

-- one of the program's texts
abbrev pub text_of : (help version list : List ℕ) → Text → List ℕ
text_of help version list Help = help
text_of help version list Version = version
text_of help version list Listed = list

-- how a call ends by what it asks for: as the work ends, with a text written, or as a wrong call, which writes nothing. Without work
-- nothing is read, as `unread` says
abbrev pub EndsRequest : {Misuse Own : Type 0} → Request → (texts : Text → List ℕ) (work : Outcome Misuse Own → Type 0) (unread : Type 0)
    (written written' : Option (List ℕ)) → Outcome Misuse Own → Type 0
EndsRequest request.Work texts work unread written written' result = work result
EndsRequest {Own = Own} (request.Text text) texts work unread written written' result =
    unread × (told : Result (Unit {0}) (Failure Own)) × WritesOut (texts text) written written' told × (result ≡ of_telling told)
EndsRequest (request.Misgiven misgiven) texts work unread written written' result =
    (result ≡ Usage (wrong.Option misgiven)) × unread × Keeps written written'

-- a part behind a mark, if there is one
abbrev pub part_of : (mark : List ℕ) → Option (List ℕ) → List ℕ
part_of mark None = []
part_of mark (Some part) = mark ++ part

-- the line more behind a wrong call
abbrev pub hint : (name : List ℕ) (is_wrong_call : Bool) → List ℕ
hint name is_wrong_call =
    if is_wrong_call then codes "\nTry '" ++ (name ++ codes " --help' for more information.") else []

-- what a program says of a failure: `NAME: FAILURE 'WORD' BEHIND: REASON`, of which all but the first two may be missing
abbrev pub complaint_of : (name failure : List ℕ) (word : Option (List ℕ)) (behind : List ℕ) (reason : Option (List ℕ))
    (is_wrong_call : Bool) → List ℕ
complaint_of name failure word behind reason is_wrong_call =
    name ++ codes ": " ++ failure ++ part_of (codes " ") word ++ behind ++ part_of (codes ": ") reason ++ hint name is_wrong_call
