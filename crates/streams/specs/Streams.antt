-- What a read brings, and what a failed write leaves.
use Rattle.std.specs.Prelude.{ℕ, ◌≡◌, List, Option, Result, Ok, Err, ◌++◌, length}
use Rattle.std.specs.Io.KnownBytes.{Appends, Consumes, IsAtEnd}
use Rattle.streams.specs.declared.failure.Failure.{Failure}
use Rattle.streams.specs.declared.failure.Failure.TheVariants.{Unwritten}

-- so many bytes were read, and stand behind those before them
abbrev pub ReadsBehind : (before after : List ℕ) (left left' : Option (List ℕ)) → ℕ → Type 0
ReadsBehind before after left left' n = (text : List ℕ) × (after ≡ before ++ text) × (length text ≡ n) × Consumes left left' text

-- and none were at the end alone
abbrev pub ReadsSome : (before after : List ℕ) (left left' : Option (List ℕ)) → ℕ → Type 0
ReadsSome before after left left' n = ReadsBehind before after left left' n × (n ≡ 0 → IsAtEnd left')

-- what is written now is what was written and a beginning of these bytes
abbrev pub AppendsPart : (before after : Option (List ℕ)) → List ℕ → Type 0
AppendsPart before after bytes = (part rest : List ℕ) × (part ++ rest ≡ bytes) × Appends before after part

-- the fault is that of a write
abbrev pub IsUnwritten : {Own : Type 0} → Failure Own → Type 0
IsUnwritten (Unwritten error) = Unit {0}
IsUnwritten other = ⊥

-- all of the bytes are written, or after a failed write a beginning of them
abbrev pub WritesOut : {Own : Type 0} (bytes : List ℕ) (written written' : Option (List ℕ)) → Result (Unit {0}) (Failure Own) → Type 0
WritesOut bytes written written' (Ok done) = Appends written written' bytes
WritesOut bytes written written' (Err fault) = AppendsPart written written' bytes × IsUnwritten fault
