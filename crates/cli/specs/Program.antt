-- How a program ends that a call asks for something.
use Rattle.std.specs.Prelude.{ℕ, ◌≡◌, ◌⊎◌, Result}
use Rattle.streams.specs.declared.failure.Failure.{Failure}
use Rattle.streams.specs.declared.failure.Failure.TheVariants.{NoMemory}
use Rattle.cli.specs.declared.frame.Request.{Request}
use Rattle.cli.specs.declared.frame.Request.TheVariants as request
use Rattle.cli.specs.declared.outcome.Outcome.{Outcome}
use Rattle.cli.specs.declared.outcome.Outcome.TheVariants.{Usage, Failed}
use Rattle.cli.specs.declared.outcome.Wrong.TheVariants as wrong
use Rattle.cli.specs.Outcome.{of_telling, status_of}

-- what comes of a call by what it asks for: a wrong call is told to be wrong, and a text is written, or that fails
abbrev pub Answers : {Misuse Own : Type 0} → Request → Outcome Misuse Own → Type 0
Answers (request.Misgiven misgiven) outcome = outcome ≡ Usage (wrong.Option misgiven)
Answers {Own = Own} (request.Text text) outcome = (told : Result (Unit {0}) (Failure Own)) × (outcome ≡ of_telling told)
Answers request.Work outcome = Unit {0}

-- the same, unless there is no memory
abbrev pub EndsAs : {Misuse Own : Type 0} → Request → Outcome Misuse Own → Type 0
EndsAs request outcome = Answers request outcome ⊎ (outcome ≡ Failed NoMemory)

-- the status that a program ends with of which this came, unless there was no memory
pub record IsStatus {Misuse Own : Type 0} (came : Outcome Misuse Own → Type 0) (status : ℕ) : Type 0 where
  pub outcome : Outcome Misuse Own
  pub ends : came outcome ⊎ (outcome ≡ Failed NoMemory)
  pub is : status ≡ status_of outcome
