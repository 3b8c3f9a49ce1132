use Rattle.hash_cuts.proofs.Common.{None, ◌-◌, ◌≤◌, length, take, CutsRead, IsBegun}
use Rattle.hash_cuts.proofs.reader.cut_reader_by.Given as goal

abbrev pub invariant-loop-bytes : goal.invariant-loop-bytes
invariant-loop-bytes g l =
    let left = g.R.Read.remaining in
    let rest = take l.kept l.buffer.items in
    record {
      cut : CutsRead g.S.Sink.taken l.cuts (left l.initial.r) (left l.r) l.initial.sink l.sink l.bytes rest None;
      begun : IsBegun l.cuts rest;
      kept : l.kept ≤ length l.buffer.items;
      within : l.bytes ≤ l.limit;
    }

abbrev pub decreases-loop-bytes : goal.decreases-loop-bytes
decreases-loop-bytes g l = l.limit - l.bytes
