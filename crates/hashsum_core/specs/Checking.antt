-- What comes of the lines that are checked.
use Rattle.std.specs.Prelude.{ℕ, ◌≡◌, ◌+◌, ◌-◌, ◌^◌, ◌==◌, ◌&&◌, ◌||◌, ◌⊎◌, if◌then◌else◌, is_none, min, nat_lt, not, Bool, true, false, List, [], ◌∷◌, ◌++◌, length, drop, Option, Result, Ok, Err, codes}
use Rattle.std.specs.IoError.{error_kind}
use Rattle.std.specs.Str.{bytes_eq}
use Rattle.std.specs.declared.io.Error.{Error}
use Rattle.std.specs.declared.io.ErrorKind.{ErrorKind}
use Rattle.std.specs.declared.io.ErrorKind.TheVariants.{NotFound}
use Rattle.hash_lines.specs.Escape.{needs_escape}
use Rattle.hash_lines.specs.Line.{mark, name_shown}
use Rattle.hash_lines.specs.Forms.{TellsNothingSo, TellsSo}
use Rattle.hash_lines.specs.Told.{Tells, TellsNothing}
use Rattle.hash_lines.specs.declared.sums.Sum.{Sum}
use Rattle.hashsum_core.specs.declared.check.Checking.{Checking}
use Rattle.hashsum_core.specs.declared.check.LineCheck.{LineCheck}
use Rattle.hashsum_core.specs.declared.check.LineCheck.TheVariants.{Skipped, Improper, Checked}
use Rattle.hashsum_core.specs.declared.check.Counts.{Counts}
use Rattle.hashsum_core.specs.declared.check.Verdict.{Verdict}
use Rattle.hashsum_core.specs.declared.check.Verdict.TheVariants.{Same, Different, Unread, Missing, Unkeyed}
use Rattle.hashsum_core.specs.declared.sum.Unsummed.{Unsummed}
use Rattle.hashsum_core.specs.declared.sum.Unsummed.TheVariants.{Unhashed, Unopened}
use Rattle.cli.specs.Files.{Opens}
use Rattle.hashsum_core.specs.Files.{SumsFile, sum_under}
use Rattle.hash_lines.specs.Sums.{is_named, name_in, takes_keys}

-- whether a file is not there
abbrev pub is_not_found : ErrorKind → Bool
is_not_found NotFound = true
is_not_found kind = false

-- the verdict on what came of a file: whether its number is the one that is told; or it has none, since it is not there and such
-- files are to be left out, or for another reason
abbrev pub verdict_on : (ignore_missing : Bool) (told : ℕ) → Result ℕ Unsummed → Verdict
verdict_on ignore_missing told (Ok number) = if number == told then Same else Different
verdict_on ignore_missing told (Err (Unopened error)) =
    if ignore_missing && is_not_found (error_kind error) then Missing else Unread
verdict_on ignore_missing told (Err (Unhashed why)) = Unread

-- a verdict on a file: that on what came of it
abbrev pub IsVerdict : (opens : Result (Option (List ℕ)) Error → Type 0) → (List ℕ → ℕ) → (ignore_missing : Bool) (told : ℕ)
    → Verdict → Type 0
IsVerdict opens hash ignore_missing told verdict =
    (came : Result ℕ Unsummed) × SumsFile opens hash came × (verdict_on ignore_missing told came ≡ verdict)

-- an empty line, or a comment, which begins with a semicolon in an SFV file, and with # elsewhere
abbrev pub is_skipped : (sfv : Bool) → List ℕ → Bool
is_skipped sfv [] = true
is_skipped sfv (first ∷ more) = first == (if sfv then 59 else 35)

-- whether lines of SFV files are taken: in a list whose name ends in .sfv, and where untagged lines are by crc32
abbrev pub takes_sfv : Sum → (list : List ℕ) → Bool
takes_sfv kind list = bytes_eq (name_in kind) (codes "crc32") || is_named (codes ".sfv") (drop (length list - 4) list)

-- a line tells this: as one of ours, or, where it is none of ours, in another program's form
abbrev pub TellsAny : (sfv : Bool) → List Sum → (default : Sum) → Sum → (name : List ℕ) (number : ℕ) → List ℕ → Type 0
TellsAny sfv kinds default kind name number line = Tells kinds default kind name number line
    ⊎ (TellsNothing kinds default line × TellsSo sfv kinds default kind name number line)

-- a line tells no hash, in no form
abbrev pub TellsNone : (sfv : Bool) → List Sum → (default : Sum) → List ℕ → Type 0
TellsNone sfv kinds default line = TellsNothing kinds default line × TellsNothingSo sfv kinds default line

-- whether a line is of the list that it stands in: where both are standard input
abbrev pub is_itself : (list name : List ℕ) → Bool
is_itself list name = bytes_eq list (codes "-") && bytes_eq name (codes "-")

-- a line of a list is of standard input, as which the list is read
abbrev pub TellsItself : List Sum → Checking → (list line : List ℕ) → Type 0
TellsItself kinds checking list line = (kind : Sum) × (name : List ℕ) × (number : ℕ)
    × TellsAny (takes_sfv checking.kind list) kinds checking.kind kind name number line × (is_itself list name ≡ true)

-- whether a line by a hash needs keys, and there are none
abbrev pub lacks_keys : (keys : Option (ℕ × ℕ)) → Sum → Bool
lacks_keys keys kind = is_none keys && takes_keys kind

-- the verdict on a line's file: that it lacks keys, or else that on what came of the file
abbrev pub IsVerdictBy : Checking → Opens → Sum → (name : List ℕ) (number : ℕ) → Verdict → Type 0
IsVerdictBy checking opens kind name number verdict =
    ((lacks_keys checking.keys kind ≡ true) × (verdict ≡ Unkeyed))
    ⊎ ((lacks_keys checking.keys kind ≡ false) × IsVerdict (opens name) (sum_under checking.keys kind) checking.ignore_missing number verdict)

-- what came of a line of a list. It is improper exactly if it tells no hash, or is of the list itself
abbrev pub IsLineCheck : List Sum → Checking → Opens → (list line : List ℕ) → LineCheck → Type 0
IsLineCheck kinds checking opens list line Skipped = is_skipped (takes_sfv checking.kind list) line ≡ true
IsLineCheck kinds checking opens list line Improper = (is_skipped (takes_sfv checking.kind list) line ≡ false)
    × (TellsNone (takes_sfv checking.kind list) kinds checking.kind line ⊎ TellsItself kinds checking list line)
IsLineCheck kinds checking opens list line (Checked entry verdict) = (is_skipped (takes_sfv checking.kind list) line ≡ false)
    × TellsAny (takes_sfv checking.kind list) kinds checking.kind entry.kind entry.name.items entry.number line
    × (is_itself list entry.name.items ≡ false)
    × IsVerdictBy checking opens entry.kind entry.name.items entry.number verdict

-- what is said of a verdict, behind the name
abbrev pub verdict_words : (quiet status : Bool) → Verdict → List ℕ
verdict_words quiet true verdict = []
verdict_words true false Same = []
verdict_words false false Same = codes ": OK" ++ 10 ∷ []
verdict_words quiet false Different = codes ": FAILED" ++ 10 ∷ []
verdict_words quiet false Unread = codes ": FAILED open or read" ++ 10 ∷ []
verdict_words quiet false Missing = []
verdict_words quiet false Unkeyed = []

-- a name and words behind it, if there are words
abbrev pub behind_name : (name words : List ℕ) → List ℕ
behind_name name [] = []
behind_name name (first ∷ more) = mark (needs_escape name) ++ (name_shown (needs_escape name) name ++ (first ∷ more))

-- the line that is written of what came
abbrev pub said : (quiet status : Bool) → LineCheck → List ℕ
said quiet status Skipped = []
said quiet status Improper = []
said quiet status (Checked entry verdict) = behind_name entry.name.items (verdict_words quiet status verdict)

-- one more, up to the greatest number
abbrev pub one_more : ℕ → ℕ
one_more n = min (n + 1) (2 ^ 64 - 1)

-- the counts with what came of one line more
abbrev pub counted : Counts → LineCheck → Counts
counted counts Skipped = counts
counted counts Improper = record counts { improper = one_more counts.improper }
counted counts (Checked entry Same) = record counts { same = one_more counts.same }
counted counts (Checked entry Different) = record counts { different = one_more counts.different }
counted counts (Checked entry Unread) = record counts { unread = one_more counts.unread }
counted counts (Checked entry Missing) = record counts { missing = one_more counts.missing }
counted counts (Checked entry Unkeyed) = record counts { unkeyed = one_more counts.unkeyed }

-- whether lines with these counts pass
abbrev pub passes : (strict : Bool) → Counts → Bool
passes strict counts =
    nat_lt 0 counts.same && (counts.different == 0) && (counts.unread == 0) && (counts.unkeyed == 0)
    && not (strict && nat_lt 0 counts.improper)
