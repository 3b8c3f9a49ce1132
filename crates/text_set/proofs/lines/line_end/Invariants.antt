use Rattle.text_set.proofs.Common.{ℕ, ◌≢◌, ◌≤◌, length, get_or, ◌<◌, ◌-◌}
use Rattle.text_set.proofs.lines.line_end.Given as goal

-- no byte so far is an end
abbrev pub invariant-loop-at : goal.invariant-loop-at
invariant-loop-at l = (l.at ≤ length l.bytes) × ((k : ℕ) → k < l.at → get_or l.bytes k 0 ≢ l.eol)

abbrev pub decreases-loop-at : goal.decreases-loop-at
decreases-loop-at l = length l.bytes - l.at

abbrev pub invariant-loop-i : goal.invariant-loop-i
invariant-loop-i l = (k : ℕ) → k < l.i → get_or l.bytes k 0 ≢ l.eol
