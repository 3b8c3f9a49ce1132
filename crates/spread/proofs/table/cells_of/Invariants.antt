use Rattle.std.proofs.Common.{◌≡◌, map, take, decimal, string_bytes}
use Rattle.spread.proofs.table.cells_of.Given as goal

-- the digits of the numbers so far
abbrev pub invariant-loop-number : goal.invariant-loop-number
invariant-loop-number l = map string_bytes l.cells.items ≡ map decimal (take l.number-index l.numbers)
