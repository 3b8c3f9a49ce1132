use Rattle.text_set.proofs.Common.{arith, sym, refl, length, get_or, Slot, ◌<◌}
use Rattle.text_set.proofs.SlotLemmas.{none_free, refilling_past, refilling_put, refilling_start}
use Rattle.text_set.proofs.slots.refilled.Goals.{then-is_taken+in-Some, else-is_taken}
use Rattle.text_set.proofs.slots.refilled.Goals as goal

pub loop-slot-init : goal.loop-slot-init
loop-slot-init c = grind (arith, refilling_start c.args.slots.now c.args.count)

pub unreachable-requires : goal.unreachable-requires
unreachable-requires c = grind (arith, none_free)

pub loop-slot-preserved : goal.loop-slot-preserved
loop-slot-preserved c =
    let nothing : Slot = record { tag = 0; place = 0 } in
    let slot : Slot = get_or c.args.slots.now c.loop-slot.slot-index nothing in
    let below : c.loop-slot.slot-index < length c.args.slots.now = omega arith in
    elim c.if-is_taken.branch [
      | then-is_taken+in-Some w ↦ rw w.more-is
          (refilling_put _ _ _ _ c.loop-slot.invariant slot nothing below refl w.in-Some.place (sym w.if-is_taken.ensures)
          (rw w.deref.ensures.value at w.in-Some.ensures))
      | else-is_taken w ↦ rw w.more-is
          (refilling_past _ _ _ _ c.loop-slot.invariant slot nothing below refl (sym w.if-is_taken.ensures))
    ]
