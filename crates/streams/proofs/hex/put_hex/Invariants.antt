use Rattle.std.proofs.Common.{◌≡◌, ◌-◌, ◌≤◌, length, drop, ◌++◌}
use Rattle.streams.specs.Hex.{hex}
use Rattle.streams.proofs.hex.put_hex.Given as goal

-- the digits that are left, and those that stand there
abbrev pub invariant-loop-at : goal.invariant-loop-at
invariant-loop-at l = record {
  put : hex (l.at - l.first) l.rest ++ drop l.at l.places ≡ hex l.digits l.number;
  after : l.first ≤ l.at;
  within : l.at ≤ 32;
  whole : length l.places ≡ 32;
}

abbrev pub decreases-loop-at : goal.decreases-loop-at
decreases-loop-at l = l.at - l.first
