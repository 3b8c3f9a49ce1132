use Rattle.hash_lines.proofs.Common.{◌≡◌, ◌++◌, length, escape}
use Rattle.hash_lines.proofs.escape.unescaped.Given as goal

abbrev pub invariant-loop-rest : goal.invariant-loop-rest
invariant-loop-rest l = escape l.name.items ++ l.rest ≡ l.shown

abbrev pub decreases-loop-rest : goal.decreases-loop-rest
decreases-loop-rest l = length l.rest
