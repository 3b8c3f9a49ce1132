use Rattle.hash_more.proofs.Crc32Common.{refl, castagnoli}
use Rattle.hash_more.specs.Crc32Laws.{crc_answer-lt}
use Rattle.hash_more.proofs.crc32.crc32c.Goals as goal

pub returns-clause-below : goal.returns-clause-below
returns-clause-below c = rw c.hash_by_rule.ensures.value (crc_answer-lt castagnoli refl c.args.bytes.now c.hash_by_rule.ensures.text)
