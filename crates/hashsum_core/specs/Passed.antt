-- Lists that pass.
use Rattle.std.specs.Prelude.{ℕ, ◌≡◌, ◌⊎◌, Bool, true, false, List, Option, Ok, Err, map, All, Any, Contains}
use Rattle.std.specs.IoError.{error_kind}
use Rattle.std.specs.declared.io.Error.{Error}
use Rattle.hash_lines.specs.declared.sums.Sum.{Sum}
use Rattle.hashsum_core.specs.declared.check.LineCheck.{LineCheck}
use Rattle.hashsum_core.specs.declared.check.LineCheck.TheVariants.{Skipped, Improper, Checked}
use Rattle.hashsum_core.specs.declared.check.Checking.{Checking}
use Rattle.hashsum_core.specs.declared.check.Verdict.TheVariants.{Same, Different, Unread, Missing, Unkeyed}
use Rattle.cli.specs.Files.{Opens}
use Rattle.hash_lines.specs.Told.{Tells}
use Rattle.text_set.specs.Lines.{lines_by}
use Rattle.hashsum_core.specs.Checking.{is_itself, is_not_found, is_skipped, takes_sfv}
use Rattle.hashsum_core.specs.Files.{IsNumber, sum_under}
use Rattle.hashsum_core.specs.Laws.{HoldsOnly}
use Rattle.hashsum_core.specs.Lists.{bare, AreLines, IsLineCheckOf}

-- whether what came of a line fails its list
abbrev pub fails : (strict : Bool) → LineCheck → Bool
fails strict Skipped = false
fails strict Improper = strict
fails strict (Checked entry Same) = false
fails strict (Checked entry Different) = true
fails strict (Checked entry Unread) = true
fails strict (Checked entry Missing) = false
fails strict (Checked entry Unkeyed) = true

-- whether a line tells the hash that its file has
abbrev pub is_same : LineCheck → Bool
is_same Skipped = false
is_same Improper = false
is_same (Checked entry Same) = true
is_same (Checked entry Different) = false
is_same (Checked entry Unread) = false
is_same (Checked entry Missing) = false
is_same (Checked entry Unkeyed) = false

-- the list of a name was opened and read to its end, none of its lines fails it, and one tells the hash that its file has
pub record HasPassed (kinds : List Sum) (checking : Checking) (opens : Opens) (list : List ℕ) : Type 0 where
  pub held : Option (List ℕ)
  pub opened : opens list (Ok held)
  pub lines : List (List ℕ × LineCheck)
  pub are_lines : AreLines held (map (λ line. line.0) lines)
  pub came : All (IsLineCheckOf kinds checking opens list) lines
  pub none_fails : All (λ line. fails checking.strict line.1 ≡ false) lines
  pub some_is_same : Any (λ line. is_same line.1 ≡ true) lines

-- a line of a list tells the hash of a file, and is neither a comment nor of the list itself
pub record LineTells (kinds : List Sum) (checking : Checking) (list line : List ℕ) (kind : Sum) (name : List ℕ) (number : ℕ)
    : Type 0 where
  pub tells : Tells kinds checking.kind kind name number (bare line)
  pub no_comment : is_skipped (takes_sfv checking.kind list) (bare line) ≡ false
  pub of_another : is_itself list name ≡ false

-- the list of a name holds such a line
pub record ListTells (kinds : List Sum) (checking : Checking) (opens : Opens) (list : List ℕ) (kind : Sum) (name : List ℕ) (number : ℕ)
    : Type 0 where
  pub text : List ℕ
  pub holds : HoldsOnly (opens list) text
  pub line : List ℕ
  pub is_line : Contains (lines_by 10 text) line
  pub tells : LineTells kinds checking list line kind name number

-- the file of a name was opened, and the text that was read of it has this hash; or it is not there, and such files are left out
abbrev pub HasHash : Checking → Opens → Sum → (name : List ℕ) (number : ℕ) → Type 0
HasHash checking opens kind name number =
    ((held : Option (List ℕ)) × opens name (Ok held) × IsNumber (sum_under checking.keys kind) held number)
    ⊎ ((checking.ignore_missing ≡ true) × (error : Error) × opens name (Err error) × (is_not_found (error_kind error) ≡ true))
