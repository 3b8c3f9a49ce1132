use Rattle.hash_cuts.proofs.Common.{None, ◌-◌, ◌≤◌, length, drop, GivesFirst}
use Rattle.hash_cuts.proofs.reader.give_first.Given as goal

abbrev pub invariant-loop-given : goal.invariant-loop-given
invariant-loop-given g l =
    record {
      gives : GivesFirst g.S.Sink.taken l.cuts l.bytes (drop l.given l.bytes) None l.initial.sink l.sink;
      within : l.given ≤ length l.bytes;
    }

abbrev pub decreases-loop-given : goal.decreases-loop-given
decreases-loop-given g l = length l.bytes - l.given
