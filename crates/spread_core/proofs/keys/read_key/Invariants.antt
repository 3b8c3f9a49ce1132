use Rattle.spread_core.proofs.Common.{◌≤◌, ◌-◌, length, Consumes}
use Rattle.spread_core.proofs.keys.read_key.Given as goal

-- what was read so far is the front of a key
abbrev pub invariant-pieces : goal.invariant-pieces
invariant-pieces g l = (length l.key.items ≤ l.width) × Consumes (g.R.Read.remaining l.initial.r) (g.R.Read.remaining l.r) l.key.items

abbrev pub decreases-pieces : goal.decreases-pieces
decreases-pieces g l = l.width - length l.key.items
