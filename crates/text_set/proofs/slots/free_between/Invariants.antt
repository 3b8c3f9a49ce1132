use Rattle.text_set.proofs.Common.{ℕ, ◌≤◌, get_or, not, false, is_taken, EMPTY, ◌≡◌, ◌<◌}
use Rattle.text_set.proofs.slots.free_between.Given as goal

-- no slot so far is free
abbrev pub invariant-loop-i : goal.invariant-loop-i
invariant-loop-i l = (j : ℕ) → l.from ≤ j → j < l.i → not (is_taken (get_or l.slots j EMPTY)) ≡ false
