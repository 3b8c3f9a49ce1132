-- What comes of lines that are taken one after the other: how the task stands, and what is written.
use Rattle.std.specs.Prelude.{ℕ, ◌≡◌, Bool, true, false, Option, List, ◌++◌, IfSome}
use Rattle.std.specs.Io.KnownBytes.{Appends}
use Rattle.streams.specs.Streams.{AppendsPart}
use Rattle.dedup_core.specs.Inputs.{ReadsInput}
use Rattle.text_set.specs.Lines.{lines_by}
use Rattle.dedup_core.specs.declared.run.Left.{Left}
use Rattle.dedup_core.specs.declared.run.Left.TheVariants.{Done, Failed}

-- what is written of more lines stands behind what is written of those before
abbrev pub Grows : (output : List (List ℕ) → List ℕ) → Type 0
Grows output = (ls more : List (List ℕ)) → (rest : List ℕ) × (output (ls ++ more) ≡ output ls ++ rest)

-- these lines are taken, and what is due of them was written since the start
pub record At (output : List (List ℕ) → List ℕ) (taken : List (List ℕ) → Type 0) (written start : Option (List ℕ))
    (ls : List (List ℕ)) : Type 0 where
  pub stands : taken ls
  pub writes : Appends start written (output ls)

-- a beginning of what is due of these lines was written since the start
abbrev pub Broke : (output : List (List ℕ) → List ℕ) (written start : Option (List ℕ)) → List (List ℕ) → Type 0
Broke output written start ls = AppendsPart start written (output ls)

-- these lines come next
pub record Leads (before after : (start : Option (List ℕ)) → List (List ℕ) → Type 0) (more : List (List ℕ)) : Type 0 where
  pub on : (start : Option (List ℕ)) (ls : List (List ℕ)) → before start ls → after start (ls ++ more)

-- the lines of what is left of an input begin with these
abbrev pub BeginWith : (eol : ℕ) (left : Option (List ℕ)) → List (List ℕ) → Type 0
BeginWith eol left ls = IfSome left (λ bytes. (later : List (List ℕ)) × (lines_by eol bytes ≡ ls ++ later))

-- the lines of an input begin with these, of which a beginning of what is due was written
abbrev pub BreaksInput : (before broke : Option (List ℕ) → List (List ℕ) → Type 0) (eol : ℕ) (left : Option (List ℕ)) → Type 0
BreaksInput before broke eol left = (ls : List (List ℕ)) × BeginWith eol left ls × Leads before broke ls

-- the lines of an input are taken
abbrev pub TakesInput : (before after : Option (List ℕ) → List (List ℕ) → Type 0) (eol : ℕ) (ended : Bool) (left left' : Option (List ℕ))
    → Type 0
TakesInput before after eol ended left left' = (ls : List (List ℕ)) × ReadsInput eol ended left left' ls × Leads before after ls

-- the same of an input that was read to its end, or failed
abbrev pub LeavesInput : (before after : Option (List ℕ) → List (List ℕ) → Type 0) (eol : ℕ) (left left' : Option (List ℕ)) → Left → Type 0
LeavesInput before after eol left left' Done = TakesInput before after eol true left left'
LeavesInput before after eol left left' (Failed error) = TakesInput before after eol false left left'
