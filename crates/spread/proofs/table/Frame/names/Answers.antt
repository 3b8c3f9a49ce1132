use Rattle.std.proofs.Common.{◌∷◌, [], sym, refl, append-nil, codes, string_bytes}
use Rattle.spread.specs.Lines.{AreCells, heads, number_heads}
use Rattle.spread.proofs.CellLemmas.{ended_line, first_cell, one_more}
use Rattle.spread.proofs.table.Frame.names.Goals.{then-self+in_ok-push, else-self}
use Rattle.spread.proofs.table.Frame.names.Goals as goal

pub returns : goal.returns
returns c =
    let frame = c.args.self.now in
    let begun = first_cell (string_bytes c.in_ok-line.line.text) (codes "hash") c.in_ok-line.ensures in
    let numbers : AreCells (codes "hash" ∷ number_heads frame) (string_bytes c.push_names.new.self.text) =
    rw (sym c.requires) (c.in_ok-push_names.ensures (codes "hash" ∷ []) begun) in
    let all : AreCells (heads frame) (string_bytes c.if-self.line.text) = elim c.if-self.branch [
      | then-self+in_ok-push w ↦
          rw (w.line-is, w.if-self.true) (one_more (codes "hash" ∷ number_heads frame) _ _ (codes "ns") _ numbers w.in_ok-push.ensures refl)
      | else-self w ↦ rw (w.line-is, w.if-self.false, append-nil (codes "hash" ∷ number_heads frame)) numbers
    ] in
    ended_line (heads frame) _ all c.ended.result c.ended.ensures
