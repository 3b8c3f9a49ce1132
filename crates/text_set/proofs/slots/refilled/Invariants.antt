use Rattle.text_set.proofs.SlotLemmas.{Refilling}
use Rattle.text_set.proofs.slots.refilled.Given as goal

-- the slots so far are in the new table
abbrev pub invariant-loop-slot : goal.invariant-loop-slot
invariant-loop-slot l = Refilling l.slots l.slot-index l.count l.more.items
