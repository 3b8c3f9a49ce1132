use Rattle.hashsum_core.proofs.Common.{inl, inr, sym, ◌∙◌}
use Rattle.hashsum_core.proofs.check.check_line.Goals as goal

pub returns-then-is_itself : goal.returns-then-is_itself
returns-then-is_itself g c =
    let entry = c.in-Some.entry in
    let tells = rw (c.in-Some.is, c.takes_sfv-sfv.ensures) at c.in_ok-entry.ensures in
    let itself = rw c.deref.ensures.value at (sym c.is_itself.ensures ∙ c.if-is_itself.true) in
    (rw c.takes_sfv-sfv.ensures at (sym c.is_skipped.ensures ∙ c.if-is_skipped.false), inr (entry.kind, entry.name.items, entry.number, tells, itself))

pub returns-else-is_itself : goal.returns-else-is_itself
returns-else-is_itself g c =
    let tells = rw (c.in-Some.is, c.takes_sfv-sfv.ensures) at c.in_ok-entry.ensures in
    let another = rw c.deref.ensures.value at (sym c.is_itself.ensures ∙ c.if-is_itself.false) in
    (rw c.takes_sfv-sfv.ensures at (sym c.is_skipped.ensures ∙ c.if-is_skipped.false), tells, another, c.verdict_by-verdict.ensures)

pub returns-in-None : goal.returns-in-None
returns-in-None g c =
    (rw c.takes_sfv-sfv.ensures at (sym c.is_skipped.ensures ∙ c.if-is_skipped.false), inl (rw (c.in-None.is, c.takes_sfv-sfv.ensures) at c.in_ok-entry.ensures))
