use Rattle.hashsum_core.proofs.Common.{inr}
use Rattle.hashsum_core.proofs.check.tell_line.Goals as goal

pub returns-in-Ok-write_out-clause-told : goal.returns-in-Ok-write_out-clause-told
returns-in-Ok-write_out-clause-told g c = (
  rw c.bare-text.ensures at c.in-Ok.ensures,
  rw (c.deref.ensures.value, c.in-Ok-said.ensures) at c.in-Ok-write_out.ensures.told,
)

pub returns-in-Err-write_out-clause-told : goal.returns-in-Err-write_out-clause-told
returns-in-Err-write_out-clause-told g c = inr (
  c.in-Ok.came,
  rw c.bare-text.ensures at c.in-Ok.ensures,
  (rw (c.deref.ensures.value, c.in-Ok-said.ensures) at c.in-Err-write_out.ensures.told).0,
)
