-- How a run ends, by what came of reading and of writing.
use Rattle.std.proofs.Common.{ℕ, List, Option, Some, None, Result, Ok, Err, refl, subst, rules}
use Rattle.std.specs.Io.KnownBytes.{Appends, Keeps}
use Rattle.streams.specs.Streams.{AppendsPart}
use Rattle.hash_names.specs.Named.{HashesNamed}
use Rattle.hash_names.specs.declared.reading.NoHash.{NoHash}
use Rattle.hash_names.specs.declared.reading.NoHash.TheVariants as none
use Rattle.hash_laws.specs.declared.reading.limited.Unhashed.TheVariants as unhashed
use Rattle.hashof.specs.declared.run.RunFault.{RunFault}
use Rattle.hashof.specs.declared.run.RunFault.TheVariants.{UnknownName, ReadFault, TooLong, WriteFault}
use Rattle.hashof.specs.Line.{line_of}
use Rattle.hashof.specs.Running.{Run, EndsNamed, WritesLine, fault_of}

-- nothing was written
pub ended_unread : (hash : Option (List ℕ → ℕ)) (run : Run) (why : NoHash) → HashesNamed hash run.reading (Err why)
    → Keeps run.before run.after
    → EndsNamed hash run (Err (fault_of why))
ended_unread None run none.UnknownName (unknown, keeps) kept = (refl, (keeps, kept))
ended_unread None run (none.Unhashed why) (unknown, keeps) kept = absurd (search rules)
ended_unread (Some hash) run none.UnknownName refused kept = refused
ended_unread (Some hash) run (none.Unhashed (unhashed.ReadFault fault)) (some, below) kept = (some, below, kept)
ended_unread (Some hash) run (none.Unhashed unhashed.TooLong) some kept = (some, kept)

-- the line was written, or a beginning of it
pub ended_told : (hash : Option (List ℕ → ℕ)) (run : Run) (number : ℕ) (told : Result (Unit {0}) RunFault)
    → HashesNamed hash run.reading (Ok number) → WritesLine (line_of number) run.before run.after told → EndsNamed hash run told
ended_told None run number told (unknown, keeps) puts = absurd (search rules)
ended_told (Some hash) run number (Ok done) (text, all, is) appends =
    (text, all, subst (λ n. Appends run.before run.after (line_of n)) is appends)
ended_told (Some hash) run number (Err (WriteFault error)) (text, all, is) puts =
    (text, all, subst (λ n. AppendsPart run.before run.after (line_of n)) is puts.0)
ended_told (Some hash) run number (Err UnknownName) hashes puts = absurd puts.1
ended_told (Some hash) run number (Err (ReadFault fault)) hashes puts = absurd puts.1
ended_told (Some hash) run number (Err TooLong) hashes puts = absurd puts.1
