use Rattle.text_set.proofs.Common.{ℕ, ◌≤◌, get_or, false, stops, EMPTY, ◌≡◌, ◌<◌}
use Rattle.text_set.proofs.slots.stop_between.Given as goal

-- the search ends at no slot so far
abbrev pub invariant-loop-i : goal.invariant-loop-i
invariant-loop-i l = (j : ℕ) → l.from ≤ j → j < l.i → stops l.texts l.tag l.text (get_or l.slots j EMPTY) ≡ false
