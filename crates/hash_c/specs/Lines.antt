-- What is written of the lines of a text.
use Rattle.std.specs.Prelude.{ℕ, ◌++◌, List, length, take, drop}

-- numbers written over the first of others, as far as those reach
abbrev pub laid_over : List ℕ → List ℕ → List ℕ
laid_over numbers others = take (length others) numbers ++ drop (length numbers) others
