use Rattle.hash_more.proofs.Crc32Common.{◌*◌, bits_out}
use Rattle.hash_more.proofs.Crc32Products.{LeadsTo}
use Rattle.hash_more.proofs.crc32.zeros_in.Given as goal

abbrev pub invariant-loop-rest : goal.invariant-loop-rest
invariant-loop-rest g l =
    LeadsTo g.P.Polynomial.POLYNOMIAL l.power l.rest l.moved (bits_out g.P.Polynomial.POLYNOMIAL (8 * l.fn.count) l.fn.word)

abbrev pub decreases-loop-rest : goal.decreases-loop-rest
decreases-loop-rest g l = l.rest
