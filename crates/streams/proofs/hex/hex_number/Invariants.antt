use Rattle.std.proofs.Common.{◌≡◌, ◌^◌, ◌<◌, drop}
use Rattle.streams.specs.Hex.{hex_value, value_behind}
use Rattle.streams.proofs.hex.hex_number.Given as goal

abbrev pub invariant-loop-byte : goal.invariant-loop-byte
invariant-loop-byte l = record {
  value : value_behind l.number (drop l.byte-index l.digits) ≡ hex_value l.digits;
  small : l.number < 16 ^ l.byte-index;
}
