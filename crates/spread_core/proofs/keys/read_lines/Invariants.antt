use Rattle.spread_core.proofs.Common.{TakesLines}
use Rattle.spread_core.proofs.keys.read_lines.Given as goal

-- what was read so far is whole lines, whose keys are there
abbrev pub invariant-lines : goal.invariant-lines
invariant-lines g l = TakesLines l.eol l.initial.keys.texts l.keys.texts (g.R.Read.remaining l.initial.r) (g.R.Read.remaining l.r)
