use Rattle.std.proofs.Common.{◌^◌, lit<}
use Rattle.hash_laws.specs.ByteLaws.{recurrence_below}
use Rattle.hash_bytes.specs.Oz.{djb2_step}
use Rattle.hash_bytes.specs.OzLaws.{djb2_facts}
use Rattle.hash_bytes.proofs.oz.djb2.Goals as goal

pub returns-clause-below : goal.returns-clause-below
returns-clause-below c =
    rw c.hash_by_plain.ensures.value
    (recurrence_below djb2_step (2 ^ 32) djb2_facts.in_range 5381 c.args.bytes.now (lit< tt) c.hash_by_plain.ensures.text)
