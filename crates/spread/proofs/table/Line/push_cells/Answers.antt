use Rattle.std.proofs.Common.{ap, ◌∙◌, string_bytes}
use Rattle.spread.proofs.CellLemmas.{adds_next, adds_none}
use Rattle.spread.proofs.table.Line.push_cells.Goals as goal

pub loop-place-init : goal.loop-place-init
loop-place-init c = adds_none _

pub loop-place-preserved : goal.loop-place-preserved
loop-place-preserved c =
    adds_next string_bytes c.args.cells.now c.loop-place.place _ _ _ _ _ c.loop-place-test.true c.loop-place.invariant c.in_ok-push.ensures
    (c.as_str.ensures.value ∙ ap string_bytes c.index-cells-place.is)
