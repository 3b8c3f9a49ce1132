use Rattle.hash_lines.proofs.Common.{◌≤◌, length, drop, Lacks}
use Rattle.hash_lines.proofs.forms.rsplit_once.Given as goal

-- the bytes from here on are others
abbrev pub invariant-loop-at : goal.invariant-loop-at
invariant-loop-at l = record { within : l.at ≤ length l.bytes; lacks : Lacks l.mark (drop l.at l.bytes) }

abbrev pub decreases-loop-at : goal.decreases-loop-at
decreases-loop-at l = l.at
