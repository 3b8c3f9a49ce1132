-- Lines among the bytes that were read.
use Rattle.std.specs.Prelude.{ℕ, ◌≡◌, ◌+◌, Option, Some, List, [], ◌∷◌, ◌++◌, ◌≤◌, length, take, drop}
use Rattle.std.specs.Io.BufRead.{ends_with_byte}
use Rattle.std.specs.Io.KnownBytes.{Consumes, IsAtEnd}
use Rattle.std.specs.List.{filter}
use Rattle.streams.specs.Records.{ComeFirst}
use Rattle.text_set.specs.Lines.{lines_by, IsBare, IsLineEnd}
use Rattle.dedup_core.specs.declared.ahead.Found.{Found}
use Rattle.dedup_core.specs.declared.unread.NextLine.{NextLine}
use Rattle.dedup_core.specs.declared.unread.NextLine.TheVariants.{Line, End, Failure}

-- the first line of the bytes: how many bytes its text has, and a guess for this
pub record IsFound (eol : ℕ) (tag_of : List ℕ → ℕ) (bytes : List ℕ) (found : Found) : Type 0 where
  pub end : IsLineEnd eol bytes (Some found.len)
  pub tag : found.guess.tag ≡ tag_of (take found.len bytes)

-- these are the first lines of the bytes
abbrev pub AreNext : (eol : ℕ) (tag_of : List ℕ → ℕ) (bytes : List ℕ) → List Found → Type 0
AreNext eol tag_of bytes [] = Unit {0}
AreNext eol tag_of bytes (found ∷ more) = IsFound eol tag_of bytes found × AreNext eol tag_of (drop (found.len + 1) bytes) more

-- the first lines of the bytes are these, each with its end, up to the rest
pub record Splits (eol : ℕ) (bytes : List ℕ) (ls : List (List ℕ)) (rest : List ℕ) : Type 0 where
  pub first : ComeFirst (lines_by eol) bytes ls rest
  pub ends : filter (ends_with_byte eol) ls ≡ ls

-- what came of reading on: an end of a line among the bytes, or none in what was read until the input ended or failed
abbrev pub IsNextLine : (eol : ℕ) (text unread : List ℕ) (left : Option (List ℕ)) → NextLine → Type 0
IsNextLine eol text unread left Line = ¬ IsBare eol unread
IsNextLine eol text unread left End = IsBare eol text × IsAtEnd left
IsNextLine eol text unread left (Failure error) = IsBare eol text

-- some bytes more were read
pub record Filled (eol : ℕ) (unread unread' : List ℕ) (left left' : Option (List ℕ)) (came : NextLine) : Type 0 where
  pub text : List ℕ
  pub is : unread' ≡ unread ++ text
  pub read : Consumes left left' text
  pub has_come : IsNextLine eol text unread' left' came

-- these lines are taken of the bytes, of so many bytes: all lines that are whole
pub record Takes (eol : ℕ) (bytes : List ℕ) (len : ℕ) (ls : List (List ℕ)) : Type 0 where
  pub within : len ≤ length bytes
  pub splits : Splits eol bytes ls (drop len bytes)
  pub bare : IsBare eol (drop len bytes)
