-- What a run reads and writes, and how it ends.
use Rattle.std.specs.Prelude.{ℕ, ◌≡◌, ◌<◌, List, Option, Some, None, Result, Ok, Err}
use Rattle.std.specs.Io.KnownBytes.{Appends, Keeps}
use Rattle.hashof.specs.declared.run.RunFault.{RunFault}
use Rattle.hashof.specs.declared.run.RunFault.TheVariants.{UnknownName, ReadFault, TooLong, WriteFault}
use Rattle.hash_names.specs.Named.{named}
use Rattle.hash_names.specs.Limited.{Reading, ReadsAll, ReadsSome, read}
use Rattle.hash_names.specs.declared.reading.NoHash.{NoHash}
use Rattle.hash_names.specs.declared.reading.NoHash.TheVariants as none
use Rattle.hash_laws.specs.declared.reading.limited.Unhashed.TheVariants as unhashed
use Rattle.streams.specs.Streams.{AppendsPart}
use Rattle.hashof.specs.Line.{line_of}

-- what a run reads, and the bytes that are written before and after it
pub record Run : Type 0 where
  pub reading : Reading
  pub before : Option (List ℕ)
  pub after : Option (List ℕ)

abbrev pub run_of : {R W : Type 0} (limit : ℕ) (remaining : R → Option (List ℕ)) (r r' : R) (contents : W → Option (List ℕ))
    (w w' : W) → Run
run_of limit remaining r r' contents w w' = record {
  reading = read limit remaining r r';
  before = contents w;
  after = contents w';
}

-- why there is no hash, as the fault of a run
abbrev pub fault_of : NoHash → RunFault
fault_of none.UnknownName = UnknownName
fault_of (none.Unhashed (unhashed.ReadFault fault)) = ReadFault fault
fault_of (none.Unhashed unhashed.TooLong) = TooLong

-- a write or the flush failed
abbrev pub IsOfWrite : RunFault → Type 0
IsOfWrite (WriteFault error) = Unit {0}
IsOfWrite other = ⊥

-- the line was written, or after a failed write a beginning of it
abbrev pub WritesLine : (line : List ℕ) (written written' : Option (List ℕ)) → Result (Unit {0}) RunFault → Type 0
WritesLine line written written' (Ok done) = Appends written written' line
WritesLine line written written' (Err fault) = AppendsPart written written' line × IsOfWrite fault

-- nothing was read or written
abbrev pub IsUntouched : Run → Type 0
IsUntouched run = Keeps run.reading.before run.reading.after × Keeps run.before run.after

-- how a run by a hash ends: all was read and the line of its hash written; some was read and nothing written; or all was
-- read and a beginning of the line written
abbrev pub EndsBy : (hash : List ℕ → ℕ) → Run → Result (Unit {0}) RunFault → Type 0
EndsBy hash run (Ok done) = (text : List ℕ) × ReadsAll run.reading text × Appends run.before run.after (line_of (hash text))
EndsBy hash run (Err UnknownName) = ⊥
EndsBy hash run (Err (ReadFault fault)) = ReadsSome run.reading fault.bytes × (fault.bytes < run.reading.limit) × Keeps run.before run.after
EndsBy hash run (Err TooLong) = ReadsSome run.reading run.reading.limit × Keeps run.before run.after
EndsBy hash run (Err (WriteFault error)) = (text : List ℕ) × ReadsAll run.reading text
    × AppendsPart run.before run.after (line_of (hash text))

abbrev pub EndsNamed : Option (List ℕ → ℕ) → Run → Result (Unit {0}) RunFault → Type 0
EndsNamed None run result = (result ≡ Err UnknownName) × IsUntouched run
EndsNamed (Some hash) run result = EndsBy hash run result

-- how a run over a name ends
abbrev pub Ends : (name : List ℕ) → Run → Result (Unit {0}) RunFault → Type 0
Ends name run result = EndsNamed (named name) run result
