use Rattle.std.proofs.Common.{◌≡◌, ◌≤◌, length, drop, ◌++◌, decimal}
use Rattle.hashof.specs.Line.{line_of}
use Rattle.hashof.proofs.line.put_line.Given as goal

-- the digits that are left, and those that stand there
abbrev pub invariant-loop-rest : goal.invariant-loop-rest
invariant-loop-rest l = record {
  line : decimal l.rest ++ drop l.at l.line ≡ line_of l.number;
  room : length (decimal l.rest) ≤ l.at;
  within : l.at ≤ 20;
  whole : length l.line ≡ 21;
}

abbrev pub decreases-loop-rest : goal.decreases-loop-rest
decreases-loop-rest l = l.rest
