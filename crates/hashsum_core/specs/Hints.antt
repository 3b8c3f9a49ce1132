-- Which hash lines without a tag may be of, where a check names none.
use Rattle.std.specs.Prelude.{ℕ, ◌+◌, ◌==◌, ◌&&◌, not, if◌then◌else◌, Bool, true, List, [], ◌∷◌, Option, Some, None}
use Rattle.std.specs.Char.{is_ascii_hexdigit, is_ascii_whitespace}
use Rattle.hashsum_core.specs.declared.check.LineCheck.{LineCheck}
use Rattle.hashsum_core.specs.declared.check.LineCheck.TheVariants.{Skipped, Improper, Checked}
use Rattle.hashsum_core.specs.declared.check.Verdict.TheVariants.{Same, Different, Unread, Missing, Unkeyed}
use Rattle.hashsum_core.specs.declared.hints.Hint.{Hint}
use Rattle.hashsum_core.specs.declared.hints.Hint.TheVariants.{Short, Long}
use Rattle.hashsum_core.specs.declared.hints.Untagged.{Untagged}

-- how many hexadecimal digits stand in front of the first blank of a line; 0 where something else does, or there is no blank
abbrev pub digits_from : (so_far : ℕ) → List ℕ → ℕ
digits_from so_far [] = 0
digits_from so_far (byte ∷ more) =
    if is_ascii_whitespace byte then so_far else if is_ascii_hexdigit byte then digits_from (so_far + 1) more else 0

abbrev pub digits_in_front : (line : List ℕ) → ℕ
digits_in_front line = digits_from 0 line

-- what came of lines without a tag, with a line more: an improper one of 16 digits, or one of 32 whose file has its hash, or another
abbrev pub with_line : Untagged → (line : List ℕ) → LineCheck → Untagged
with_line lines line Skipped = lines
with_line lines line Improper = if digits_in_front line == 16 then record lines { short = true } else lines
with_line lines line (Checked entry Same) = if digits_in_front line == 32 then record lines { same = true } else lines
with_line lines line (Checked entry Different) = if digits_in_front line == 32 then record lines { different = true } else lines
with_line lines line (Checked entry Unread) = lines
with_line lines line (Checked entry Missing) = lines
with_line lines line (Checked entry Unkeyed) = lines

-- what such lines look like, unless a hash is asked for: as those of XXH64, or as those of MD5, where no file has its hash
abbrev pub hint_of : (only : Bool) → Untagged → Option Hint
hint_of only lines = if only then None else if lines.short then Some Short else
    if lines.different && not lines.same then Some Long else None
