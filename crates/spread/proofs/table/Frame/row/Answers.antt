use Rattle.std.proofs.Common.{◌≡◌, ◌∷◌, [], ap, sym, ◌∙◌, map, decimal, string_bytes}
use Rattle.hash_kinds.specs.Named.{name_of}
use Rattle.spread_core.specs.Table.{row_numbers}
use Rattle.spread.specs.Lines.{AreCells, row_cells}
use Rattle.spread.proofs.CellLemmas.{ended_line, ended_with, first_cell, one_more}
use Rattle.spread.proofs.table.Frame.row.Goals.{in-Some+in_ok-format+in_ok-push, in_default}
use Rattle.spread.proofs.table.Frame.row.Goals as goal

pub returns : goal.returns
returns c =
    let row = c.args.row.now in
    let begun = first_cell (string_bytes c.in_ok-line.line.text) (name_of row.kind) (c.in_ok-line.ensures ∙ c.row.ensures.named) in
    let shown : map string_bytes c.deref-2.result.now ≡ map decimal (row_numbers row.kind row.counts) =
    ap (map string_bytes) c.deref-2.ensures.value ∙ c.in_ok-cells.ensures
    ∙ ap (map decimal) (c.deref.ensures.value ∙ c.in_ok-numbers.ensures) in
    let numbers : AreCells (row_cells row) (string_bytes c.push_cells.new.self.text) =
    rw (sym shown) (c.in_ok-push_cells.ensures (name_of row.kind ∷ []) begun) in
    elim c.match-row.branch [
      | in-Some+in_ok-format+in_ok-push w ↦
          rw (w.in-Some.is) (
          ended_with (row_cells row) (string_bytes w.in_ok-format.field-0) _
          (rw w.line-is (one_more (row_cells row) _ _ (string_bytes w.in_ok-format.field-0) _ numbers w.in_ok-push.ensures w.as_str.ensures.value))
          c.ended.result c.ended.ensures
          )
      | in_default w ↦ rw (w.in_default.is) (ended_line (row_cells row) _ (rw w.line-is numbers) c.ended.result c.ended.ensures)
    ]
