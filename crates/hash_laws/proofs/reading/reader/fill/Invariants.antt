use Rattle.std.proofs.Common.{length, ◌-◌, ◌≤◌, take}
use Rattle.std.specs.Io.KnownBytes.{Consumes}
use Rattle.hash_laws.proofs.reading.reader.fill.Given as goal

abbrev pub invariant-loop-filled : goal.invariant-loop-filled
invariant-loop-filled g l =
    let left = g.R.Read.remaining in
    record {
      within : l.filled ≤ length l.buf;
      read : Consumes (left l.initial.r) (left l.r) (take l.filled l.buf);
    }

abbrev pub decreases-loop-filled : goal.decreases-loop-filled
decreases-loop-filled g l = length l.initial.buf - l.filled
