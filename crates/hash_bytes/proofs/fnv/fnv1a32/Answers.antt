use Rattle.std.proofs.Common.{◌^◌, lit<}
use Rattle.hash_laws.specs.ByteLaws.{recurrence_below}
use Rattle.hash_bytes.specs.Fnv.{fnv1a32_basis, fnv1a32_step}
use Rattle.hash_bytes.specs.FnvLaws.{fnv1a32_facts}
use Rattle.hash_bytes.proofs.fnv.fnv1a32.Goals as goal

pub returns-clause-below : goal.returns-clause-below
returns-clause-below c =
    rw c.hash_by_plain.ensures.value
    (recurrence_below fnv1a32_step (2 ^ 32) fnv1a32_facts.in_range fnv1a32_basis c.args.bytes.now (lit< tt) c.hash_by_plain.ensures.text)
