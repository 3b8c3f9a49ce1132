use Rattle.hash_more.proofs.Crc32Texts.{all_sixteens}
use Rattle.hash_more.proofs.crc32.CrcRuleByteRule.write.Goals as goal

pub returns : goal.returns
returns g c =
    all_sixteens g.P.Polynomial.POLYNOMIAL _ _ _ _ _ _ _ c.loop-sixteen-test.false c.as_rchunks.ensures.front c.as_rchunks.ensures.back
    c.in_eights.ensures c.loop-sixteen.invariant
