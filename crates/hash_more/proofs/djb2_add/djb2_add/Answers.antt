use Rattle.std.proofs.Common.{◌^◌, lit<}
use Rattle.hash_laws.specs.ByteLaws.{recurrence_below}
use Rattle.hash_more.specs.Djb2Add.{djb2_add_step}
use Rattle.hash_more.specs.Djb2AddLaws.{djb2_add_facts}
use Rattle.hash_more.proofs.djb2_add.djb2_add.Goals as goal

pub returns-clause-below : goal.returns-clause-below
returns-clause-below c =
    rw c.hash_by_plain.ensures.value
    (recurrence_below djb2_add_step (2 ^ 32) djb2_add_facts.in_range 5381 c.args.bytes.now (lit< tt) c.hash_by_plain.ensures.text)
