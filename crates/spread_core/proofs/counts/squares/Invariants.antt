use Rattle.spread_core.proofs.Common.{◌≡◌, ◌*◌, take, sum_by}
use Rattle.spread_core.proofs.counts.squares.Given as goal

abbrev pub invariant-loop-count : goal.invariant-loop-count
invariant-loop-count l = l.total ≡ sum_by (λ count. count * count) (take l.count-index l.counts)
