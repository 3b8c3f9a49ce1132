use Rattle.hash_more.proofs.Crc32Common.{refl, ieee}
use Rattle.hash_more.specs.Crc32Laws.{crc_answer-lt}
use Rattle.hash_more.proofs.crc32.crc32.Goals as goal

pub returns-clause-below : goal.returns-clause-below
returns-clause-below c = rw c.hash_by_rule.ensures.value (crc_answer-lt ieee refl c.args.bytes.now c.hash_by_rule.ensures.text)
