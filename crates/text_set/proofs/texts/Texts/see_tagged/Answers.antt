use Rattle.text_set.proofs.Common.{arith, nat_tests, common_steps}
use Rattle.text_set.proofs.SetLemmas.{once_more}
use Rattle.text_set.proofs.SlotLemmas.{has_not_found, none_stops, slot_made, stands_behind, stands_there, table_kept, table_more, with_new}
use Rattle.text_set.proofs.texts.Texts.see_tagged.Goals as goal

pub unreachable-requires : goal.unreachable-requires
unreachable-requires g c = grind (arith, none_stops)

pub returns-then-is_taken : goal.returns-then-is_taken
returns-then-is_taken g c =
    let table = table_kept _ _ _ _ _ _ c.self.invariant.1 c.in_ok-make_room.ensures.refilled in
    let tagged = rw (← c.self.view_is) at c.requires in
    let first = rw (c.deref.ensures.value, tagged) at c.in-Some.ensures in
    grind (arith, nat_tests, common_steps, stands_there table c.args.text.now first c.index-found.ensures c.if-is_taken.ensures)

pub invariant_of-self-2 : goal.invariant_of-self-2
invariant_of-self-2 g c =
    let table = table_kept _ _ _ _ _ _ c.self.invariant.1 c.in_ok-make_room.ensures.refilled in
    let tagged = rw (← c.self.view_is) at c.requires in
    let first = rw (c.deref.ensures.value, tagged) at c.in-Some.ensures in
    let made = slot_made _ _ _ _ _ c.in_ok-slot.ensures.slot tagged c.len-place.ensures.value c.in_ok-slot.ensures.below in
    let absent = has_not_found table c.args.text.now first c.index-found.ensures c.if-is_taken.ensures in
    rw c.in_ok-push.ensures.ok (
      once_more c.self.inside.texts c.args.text.now c.self.invariant.0 absent,
      table_more table first c.index-found.ensures c.if-is_taken.ensures made,
    )

pub returns : goal.returns
returns g c =
    let table = table_kept _ _ _ _ _ _ c.self.invariant.1 c.in_ok-make_room.ensures.refilled in
    let tagged = rw (← c.self.view_is) at c.requires in
    let first = rw (c.deref.ensures.value, tagged) at c.in-Some.ensures in
    let absent = has_not_found table c.args.text.now first c.index-found.ensures c.if-is_taken.ensures in
    grind (arith, with_new c.self.inside.texts c.args.text.now absent, stands_behind c.self.inside.texts c.args.text.now)
