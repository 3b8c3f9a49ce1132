-- What a run reads and writes, and how it ends.
use Rattle.std.specs.Prelude.{ℕ, ◌≡◌, ◌⊎◌, Bool, true, false, List, [], ◌∷◌, ◌++◌, Option, Result, Ok, Err, map}
use Rattle.std.specs.Io.KnownBytes.{Appends, Keeps}
use Rattle.streams.specs.Streams.{AppendsPart}
use Rattle.dedup_core.specs.Inputs.{AreRead}
use Rattle.dedup_core.specs.Taking.{BeginWith}
use Rattle.streams.specs.declared.failure.Failure.{Failure}
use Rattle.dedup_core.specs.declared.failure.TooMany.{TooMany}
use Rattle.dedup_core.specs.declared.run.Ended.{Ended}
use Rattle.dedup_core.specs.declared.run.Ended.TheVariants.{Whole, InputFailed}

-- the bytes that are left in each input and those that are written, where they are known, before a run and after it
pub record Run : Type 0 where
  pub left : List (Option (List ℕ))
  pub left' : List (Option (List ℕ))
  pub written : Option (List ℕ)
  pub written' : Option (List ℕ)

abbrev pub run_of : {R W : Type 0} (remaining : R → Option (List ℕ)) (inputs inputs' : List R) (contents : W → Option (List ℕ)) (w w' : W)
    → Run
run_of remaining inputs inputs' contents w w' = record {
  left = map remaining inputs;
  left' = map remaining inputs';
  written = contents w;
  written' = contents w';
}

-- the lines of the next input begin with these
abbrev pub NextBeginsWith : (eol : ℕ) → List (Option (List ℕ)) → List (List ℕ) → Type 0
NextBeginsWith eol [] ls = ls ≡ []
NextBeginsWith eol (left ∷ more) ls = BeginWith eol left ls

-- the lines of inputs begin with these: those of some inputs are read, and those of the next begin with the others
pub record AllBeginWith (eol : ℕ) (lefts : List (Option (List ℕ))) (ls : List (List ℕ)) : Type 0 where
  pub done : List (Option (List ℕ))
  pub done' : List (Option (List ℕ))
  pub ended : Bool
  pub before : List (List ℕ)
  pub read : AreRead eol ended done done' before
  pub more : List (Option (List ℕ))
  pub is : lefts ≡ done ++ more
  pub now : List (List ℕ)
  pub next : NextBeginsWith eol more now
  pub lines : ls ≡ before ++ now

-- what is due of all lines of the inputs was written, and so it stands once they are taken
abbrev pub WritesAll : (output : List (List ℕ) → List ℕ) (after : List (List ℕ) → Type 0) (eol : ℕ) (ended : Bool) → Run → Type 0
WritesAll output after eol ended run =
    (ls : List (List ℕ)) × AreRead eol ended run.left run.left' ls × Appends run.written run.written' (output ls) × after ls

-- a beginning of what is due of the first lines of the inputs was written
abbrev pub WritesPart : (output : List (List ℕ) → List ℕ) (eol : ℕ) → Run → Type 0
WritesPart output eol run =
    (ls : List (List ℕ)) × AllBeginWith eol run.left ls × AppendsPart run.written run.written' (output ls)

-- how a run ends that writes what `output` makes of the lines of its inputs
abbrev pub EndsTaking : (output : List (List ℕ) → List ℕ) (after : List (List ℕ) → Type 0) (eol : ℕ) → Run
    → Result Ended (Failure TooMany) → Type 0
EndsTaking output after eol run (Ok Whole) = WritesAll output after eol true run
EndsTaking output after eol run (Ok InputFailed) = WritesAll output after eol false run
EndsTaking output after eol run (Err fault) = WritesPart output eol run

-- the same where only what is written counts
abbrev pub Ends : (output : List (List ℕ) → List ℕ) (eol : ℕ) → Run → Result Ended (Failure TooMany) → Type 0
Ends output = EndsTaking output (λ ls. Unit {0})

-- nothing was written, or a beginning of what is due of all lines
abbrev pub BreaksBehind : (output : List (List ℕ) → List ℕ) (eol : ℕ) → Run → Type 0
BreaksBehind output eol run = Keeps run.written run.written'
    ⊎ ((ended : Bool) × (ls : List (List ℕ)) × AreRead eol ended run.left run.left' ls × AppendsPart run.written run.written' (output ls))

-- the same of a run that writes behind the last line alone
abbrev pub EndsBehind : (output : List (List ℕ) → List ℕ) (eol : ℕ) → Run → Result Ended (Failure TooMany) → Type 0
EndsBehind output eol run (Ok ended) = Ends output eol run (Ok ended)
EndsBehind output eol run (Err fault) = BreaksBehind output eol run
