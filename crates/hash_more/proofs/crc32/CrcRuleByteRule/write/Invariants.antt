use Rattle.hash_more.proofs.Crc32Common.{◌≡◌, fold, take, crc_from}
use Rattle.hash_more.proofs.crc32.CrcRuleByteRule.write.Given as goal

abbrev pub invariant-loop-sixteen : goal.invariant-loop-sixteen
invariant-loop-sixteen g l = l.word ≡ fold (crc_from g.P.Polynomial.POLYNOMIAL) l.initial.word (take l.sixteen-index l.sixteens)
