-- What is read of inputs, one behind the other.
use Rattle.std.specs.Prelude.{ℕ, ◌≡◌, ◌&&◌, if◌then◌else◌, Bool, true, Option, List, [], ◌∷◌, ◌++◌, IfSome}
use Rattle.std.specs.Io.BufRead.{ends_with_byte}
use Rattle.std.specs.Io.KnownBytes.{Consumes}
use Rattle.std.specs.List.{filter}
use Rattle.text_set.specs.Lines.{lines_by}

-- the lines that have an end
abbrev pub whole_lines : (eol : ℕ) → List ℕ → List (List ℕ)
whole_lines eol text = filter (ends_with_byte eol) (lines_by eol text)

-- the lines of what was read of an input: all where it was read to its end, and else those that have an end
abbrev pub lines_read : (eol : ℕ) (ended : Bool) → List ℕ → List (List ℕ)
lines_read eol ended text = if ended then lines_by eol text else whole_lines eol text

-- these are the lines of what was read of an input, of all that was left of it where it was read to its end
pub record ReadsInput (eol : ℕ) (ended : Bool) (left left' : Option (List ℕ)) (ls : List (List ℕ)) : Type 0 where
  pub text : List ℕ
  pub read : Consumes left left' text
  pub all : ended ≡ true → IfSome left (λ bytes. bytes ≡ text)
  pub lines : ls ≡ lines_read eol ended text

-- these are the lines of what was read of inputs, one behind the other, and whether each was read to its end
pub data AreRead (eol : ℕ) : (ended : Bool) (lefts lefts' : List (Option (List ℕ))) → List (List ℕ) → Type 0 where
  none : AreRead eol true [] [] []
  behind : {ended is_ended : Bool} {lefts lefts' : List (Option (List ℕ))} {left left' : Option (List ℕ)} {ls more : List (List ℕ)}
      → AreRead eol ended lefts lefts' ls → ReadsInput eol is_ended left left' more
      → AreRead eol (ended && is_ended) (lefts ++ left ∷ []) (lefts' ++ left' ∷ []) (ls ++ more)
