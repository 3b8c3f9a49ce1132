use Rattle.hash_more.proofs.Crc32Common.{refl, ieee}
use Rattle.hash_more.proofs.Crc32Texts.{joined_answer}
use Rattle.hash_more.proofs.crc32.crc32_combine.Goals as goal

pub returns-clause-joined : goal.returns-clause-joined
returns-clause-joined c x y xs ys whole first second =
    joined_answer ieee refl x y _ _ _ _ xs ys whole first second c.combine.ensures
