use Rattle.text_set.proofs.SlotLemmas.{has_not_found, has_nowhere, stands_there}
use Rattle.text_set.proofs.texts.Texts.place_of.Goals as goal

pub returns-in-None-clause-absent : goal.returns-in-None-clause-absent
returns-in-None-clause-absent g c =
    rw (← c.self.view_is) (has_nowhere c.args.text.now c.self.invariant.1 (rw (c.deref.ensures.value, c.tag_of-tag.ensures) at c.in-None.ensures))

pub returns-then-is_taken-clause-there : goal.returns-then-is_taken-clause-there
returns-then-is_taken-clause-there g c =
    let first = rw (c.deref.ensures.value, c.tag_of-tag.ensures) at c.in-Some.ensures in
    rw (← c.self.view_is) (stands_there c.self.invariant.1 c.args.text.now first c.index-found.ensures c.if-is_taken.ensures)

pub returns-else-is_taken-clause-absent : goal.returns-else-is_taken-clause-absent
returns-else-is_taken-clause-absent g c =
    let first = rw (c.deref.ensures.value, c.tag_of-tag.ensures) at c.in-Some.ensures in
    rw (← c.self.view_is) (has_not_found c.self.invariant.1 c.args.text.now first c.index-found.ensures c.if-is_taken.ensures)
