-- The program's own faults.
use Rattle.std.specs.Prelude.{ℕ, ◌-◌, ◌^◌, ◌≤◌, ⊤, List, codes, length}
use Rattle.streams.specs.declared.failure.Failure.{Failure}
use Rattle.streams.specs.declared.failure.Failure.TheVariants.{Own}
use Rattle.dedup_core.specs.declared.failure.TooMany.{TooMany}
use Rattle.dedup_core.specs.declared.failure.TooMany.TheVariants.{Texts}

-- what each says on standard error
abbrev pub words_of : TooMany → List ℕ
words_of Texts = codes "too many different lines"

-- there are as many texts as a set has at most, where that is why
abbrev pub IsFullOnly : List (List ℕ) → Failure TooMany → Type 0
IsFullOnly texts (Own Texts) = 2 ^ 32 - 1 ≤ length texts
IsFullOnly texts fault = ⊤
