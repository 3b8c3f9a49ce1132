use Rattle.std.proofs.Common.{take, string_bytes}
use Rattle.spread.specs.Lines.{AddsCells, names}
use Rattle.spread.proofs.table.Line.push_names.Given as goal

-- the names so far
abbrev pub invariant-loop-column : goal.invariant-loop-column
invariant-loop-column l = AddsCells (string_bytes l.initial.self.text) (names (take l.column-index l.columns)) (string_bytes l.self.text)
