use Rattle.std.proofs.Common.{◌^◌, lit<}
use Rattle.hash_laws.specs.ByteLaws.{recurrence_below}
use Rattle.hash_laws.specs.FnvParts.{fnv1a32_basis}
use Rattle.hash_more.specs.Fnv1.{fnv1_32_step}
use Rattle.hash_more.specs.Fnv1Laws.{fnv1_32_facts}
use Rattle.hash_more.proofs.fnv1.fnv1_32.Goals as goal

pub returns-clause-below : goal.returns-clause-below
returns-clause-below c =
    rw c.hash_by_plain.ensures.value
    (recurrence_below fnv1_32_step (2 ^ 32) fnv1_32_facts.in_range fnv1a32_basis c.args.bytes.now (lit< tt) c.hash_by_plain.ensures.text)
