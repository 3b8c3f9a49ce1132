-- Lists whose lines are checked.
use Rattle.std.specs.Prelude.{ℕ, ◌≡◌, ◌⊎◌, ◌==◌, ◌&&◌, if◌then◌else◌, drop, slice_index, Bool, true, false, List, [], ◌∷◌, ◌++◌, Option, Some, None, Result, Ok, Err, fold, IfSome}
use Rattle.std.specs.Io.BufRead.{strip_last}
use Rattle.std.specs.Io.KnownBytes.{Appends, Keeps}
use Rattle.std.specs.declared.io.Error.{Error}
use Rattle.hash_lines.specs.declared.sums.Sum.{Sum}
use Rattle.streams.specs.Streams.{AppendsPart}
use Rattle.text_set.specs.Lines.{lines_by}
use Rattle.hashsum_core.specs.declared.check.LineCheck.{LineCheck}
use Rattle.hashsum_core.specs.declared.check.Checking.{Checking}
use Rattle.hashsum_core.specs.declared.check.Counts.{Counts}
use Rattle.streams.specs.declared.failure.Failure.{Failure}
use Rattle.streams.specs.declared.failure.Nothing.{Nothing}
use Rattle.hashsum_core.specs.Checking.{counted, passes, said, IsLineCheck}
use Rattle.cli.specs.Files.{Opens}
use Rattle.cli.specs.Told.{AreTold, AreTornOff}

-- these lines come first in what was held, where that is known, and this is left behind them
abbrev pub AreFirstLines : (held : Option (List ℕ)) (lines : List (List ℕ)) (left : Option (List ℕ)) → Type 0
AreFirstLines None lines left = Unit {0}
AreFirstLines (Some text) lines left = (rest : List ℕ) × (left ≡ Some rest) × (lines ++ lines_by 10 rest ≡ lines_by 10 text)

-- these are the lines of what was held, where that is known
abbrev pub AreLines : (held : Option (List ℕ)) (lines : List (List ℕ)) → Type 0
AreLines held lines = IfSome held (λ text. lines ≡ lines_by 10 text)

-- a text without the byte order mark that some editors put in front of one
abbrev pub unmarked : List ℕ → List ℕ
unmarked text =
    if (slice_index text 0 == 239) && (slice_index text 1 == 187) && (slice_index text 2 == 191) then drop 3 text else text

-- a line without such a mark, and without its end: a newline, a carriage return and a newline, or none
abbrev pub bare : List ℕ → List ℕ
bare line = unmarked (strip_last 13 (strip_last 10 line))

-- what came of a line of a list, with its end
abbrev pub IsLineCheckOf : List Sum → Checking → Opens → (list : List ℕ) → List ℕ × LineCheck → Type 0
IsLineCheckOf kinds checking opens list line = IsLineCheck kinds checking opens list (bare line.0) line.1

-- the line that is written of it
abbrev pub said_of : Checking → List ℕ × LineCheck → List ℕ
said_of checking line = said checking.quiet checking.status line.1

-- no counts
abbrev pub uncounted : Counts
uncounted = record { improper = 0; same = 0; different = 0; unread = 0; missing = 0; unkeyed = 0 }

-- the counts of what came of lines
abbrev pub counts_of : List (List ℕ × LineCheck) → Counts
counts_of lines = fold (λ counts line. counted counts line.1) uncounted lines

-- how a line ends: what came of it was written, or a beginning of that, or nothing
abbrev pub EndsLine : List Sum → Checking → Opens → (list line : List ℕ) (written written' : Option (List ℕ))
    → Result LineCheck (Failure Nothing) → Type 0
EndsLine kinds checking opens list line written written' (Ok came) =
    IsLineCheckOf kinds checking opens list (line, came) × Appends written written' (said_of checking (line, came))
EndsLine kinds checking opens list line written written' (Err fault) = Keeps written written' ⊎ ((came : LineCheck)
    × IsLineCheckOf kinds checking opens list (line, came) × AppendsPart written written' (said_of checking (line, came)))

-- how a list ends of which these bytes are left: what came of all its lines was written, and the counts are theirs; or it failed,
-- and the same holds of its first lines; or a beginning of this was written
abbrev pub EndsList : List Sum → Checking → Opens → (list : List ℕ) (left : Option (List ℕ))
    (written written' : Option (List ℕ)) → Result (Option Counts) (Failure Nothing) → Type 0
EndsList kinds checking opens list left written written' (Ok (Some counts)) =
    (lines : List (List ℕ)) × AreLines left lines
    × (told : List (List ℕ × LineCheck))
    × AreTold (λ line. line.0) (IsLineCheckOf kinds checking opens list) (said_of checking) (λ line. true) lines told written written' true
    × (counts ≡ counts_of told)
EndsList kinds checking opens list left written written' (Ok None) =
    (lines : List (List ℕ)) × (left' : Option (List ℕ)) × AreFirstLines left lines left'
    × (told : List (List ℕ × LineCheck))
    × AreTold (λ line. line.0) (IsLineCheckOf kinds checking opens list) (said_of checking) (λ line. true) lines told written written' true
EndsList kinds checking opens list left written written' (Err fault) =
    (lines : List (List ℕ)) × (left' : Option (List ℕ)) × AreFirstLines left lines left'
    × AreTornOff (λ line. line.0) (IsLineCheckOf kinds checking opens list) (said_of checking) (λ line. true) lines written written'

-- how a list ends that was opened: its lines pass or do not, or it failed; or a beginning of what is due was written
abbrev pub EndsOpened : List Sum → Checking → Opens → (list : List ℕ) (left written written' : Option (List ℕ)) → Result Bool (Failure Nothing) → Type 0
EndsOpened kinds checking opens list left written written' (Ok passed) =
    ((counts : Counts) × EndsList kinds checking opens list left written written' (Ok (Some counts))
    × (passed ≡ passes checking.strict counts))
    ⊎ (EndsList kinds checking opens list left written written' (Ok None) × (passed ≡ false))
EndsOpened kinds checking opens list left written written' (Err fault) = EndsList kinds checking opens list left written written' (Err fault)

-- how the list of a name ends: as what it opens does; or it could not be opened, and does not pass
abbrev pub EndsListOf : List Sum → Checking → Opens → (list : List ℕ) (written written' : Option (List ℕ))
    → Result Bool (Failure Nothing) → Type 0
EndsListOf kinds checking opens list written written' ended =
    ((held : Option (List ℕ)) × opens list (Ok held) × EndsOpened kinds checking opens list held written written' ended)
    ⊎ ((error : Error) × opens list (Err error) × Keeps written written' × (ended ≡ Ok false))

-- the lists of these names ended, one behind the other, and whether all pass
pub data AreListed (kinds : List Sum) (checking : Checking) (opens : Opens) : (lists : List (List ℕ))
    (written written' : Option (List ℕ)) (all : Bool) → Type 0 where
  no_list : {written : Option (List ℕ)} → AreListed kinds checking opens [] written written true
  next_list : {lists : List (List ℕ)} {written between written' : Option (List ℕ)} {all : Bool} (list : List ℕ) (passed : Bool)
      → AreListed kinds checking opens lists written between all → EndsListOf kinds checking opens list between written' (Ok passed)
      → AreListed kinds checking opens (lists ++ list ∷ []) written written' (all && passed)

-- how a run over the lists of these names ends: all ended, or some did and of the next a beginning of what is due was written
abbrev pub EndsLists : List Sum → Checking → Opens → (lists : List (List ℕ))
    (written written' : Option (List ℕ)) → Result Bool (Failure Nothing) → Type 0
EndsLists kinds checking opens lists written written' (Ok all) = AreListed kinds checking opens lists written written' all
EndsLists kinds checking opens lists written written' (Err fault) =
    (before after : List (List ℕ)) × (list : List ℕ) × (before ++ list ∷ after ≡ lists) × (between : Option (List ℕ)) × (all : Bool)
    × AreListed kinds checking opens before written between all × EndsListOf kinds checking opens list between written' (Err fault)
