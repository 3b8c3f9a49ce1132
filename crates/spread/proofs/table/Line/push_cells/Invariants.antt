use Rattle.std.proofs.Common.{map, take, string_bytes}
use Rattle.spread.specs.Lines.{AddsCells}
use Rattle.spread.proofs.table.Line.push_cells.Given as goal

-- the cells so far
abbrev pub invariant-loop-place : goal.invariant-loop-place
invariant-loop-place l = AddsCells (string_bytes l.initial.self.text) (map string_bytes (take l.place l.cells)) (string_bytes l.self.text)
