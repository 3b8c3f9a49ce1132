use Rattle.std.proofs.Common.{refl}
use Rattle.spread.proofs.CellLemmas.{adds_next, adds_none}
use Rattle.spread.proofs.table.Line.push_names.Goals as goal

pub loop-column-init : goal.loop-column-init
loop-column-init c = adds_none _

pub loop-column-preserved : goal.loop-column-preserved
loop-column-preserved c =
    adds_next (λ column. column.name.now) c.args.columns.now c.loop-column.column-index _ _ _ _ _ c.loop-column-test.true
    c.loop-column.invariant c.in_ok-push.ensures refl
