use Rattle.spread_core.proofs.Common.{TakesFixed}
use Rattle.spread_core.proofs.keys.read_fixed.Given as goal

-- what was read so far is keys of that width, and they are there
abbrev pub invariant-keys : goal.invariant-keys
invariant-keys g l =
    TakesFixed l.width l.initial.keys.texts l.keys.texts (g.R.Read.remaining l.initial.r) (g.R.Read.remaining l.r)
