-- Files by their names.
use Rattle.std.specs.Prelude.{ℕ, List, [], ◌∷◌, Option, Result, Ok, Err, codes}
use Rattle.std.specs.declared.io.Error.{Error}
use Rattle.cli.specs.declared.opened.Opened.{Opened}
use Rattle.cli.specs.declared.opened.Opened.TheVariants.{Standard, File}

-- what comes of opening the file of a name: what it holds, where that is known, or an error
abbrev pub Opens : Type 1
Opens = (name : List ℕ) → Result (Option (List ℕ)) Error → Type 0

-- what came of opening a file
abbrev pub opened : {R : Type 0} (remaining : R → Option (List ℕ)) → Result R Error → Result (Option (List ℕ)) Error
opened remaining (Ok file) = Ok (remaining file)
opened remaining (Err error) = Err error

-- what is left to be read of standard input or of a file
abbrev pub left_of_either : {S F : Type 0} (standard : S → Option (List ℕ)) (file : F → Option (List ℕ)) → Opened S F → Option (List ℕ)
left_of_either standard file (Standard stdin) = standard stdin
left_of_either standard file (File it) = file it

-- the files of a call: its operands, or standard input
abbrev pub files_or : (names : List (List ℕ)) → List (List ℕ)
files_or [] = codes "-" ∷ []
files_or (name ∷ more) = name ∷ more
