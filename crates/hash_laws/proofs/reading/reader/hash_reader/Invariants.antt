use Rattle.std.proofs.Common.{◌-◌, ◌≡◌, ◌<◌, ◌≤◌, ◌%◌}
use Rattle.hash_laws.specs.Reading.{FeedsRead}
use Rattle.hash_laws.proofs.reading.reader.hash_reader.Given as goal

abbrev pub invariant-loop-bytes : goal.invariant-loop-bytes
invariant-loop-bytes g l =
    let H = g.H.Piecewise in
    let left = g.R.Read.remaining in
    record {
      so_far : FeedsRead H.after g.row.N (left l.initial.r) (left l.r) (H.state l.initial.h) (H.state l.h) l.bytes;
      within : l.bytes ≤ l.limit;
      whole : l.bytes < l.limit → l.bytes % g.row.N ≡ 0;
    }

abbrev pub decreases-loop-bytes : goal.decreases-loop-bytes
decreases-loop-bytes g l = l.limit - l.bytes
