use Rattle.hash_lines.proofs.Common.{take, Lacks}
use Rattle.hash_lines.proofs.forms.split_once.Given as goal

-- the bytes so far are others
abbrev pub invariant-loop-at : goal.invariant-loop-at
invariant-loop-at l = Lacks l.mark (take l.at l.bytes)
