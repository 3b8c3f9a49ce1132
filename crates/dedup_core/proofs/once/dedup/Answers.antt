use Rattle.dedup_core.proofs.Common.{once_begins}
use Rattle.dedup_core.proofs.once.dedup.Goals as goal

pub take_inputs-requires-clause-grows : goal.take_inputs-requires-clause-grows
take_inputs-requires-clause-grows g c = once_begins c.args.eol
