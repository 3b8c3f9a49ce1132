-- What is left to be read of inputs.
use Rattle.std.specs.Prelude.{ℕ, List, [], Option, Some}
use Rattle.cli.specs.declared.inputs.Input.{Input}
use Rattle.cli.specs.declared.inputs.Source.{Source}
use Rattle.cli.specs.declared.inputs.Source.TheVariants.{Unopened, Open, Ended}

-- of one that is not opened what its file holds, and of one that has ended nothing
abbrev pub left_of : {R : Type 0} (held : Option (List ℕ)) (remaining : R → Option (List ℕ)) → Source R → Option (List ℕ)
left_of held remaining Unopened = held
left_of held remaining (Open file) = remaining file
left_of held remaining Ended = Some []

abbrev pub left_in : {F R : Type 0} (holds : F → List ℕ → Option (List ℕ)) (remaining : R → Option (List ℕ)) → Input R F → Option (List ℕ)
left_in holds remaining input = left_of (holds input.folder.now input.name.now) remaining input.source
