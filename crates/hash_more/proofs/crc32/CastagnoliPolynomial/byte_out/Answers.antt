use Rattle.hash_more.proofs.Crc32Common.{refl, arith, castagnoli}
use Rattle.hash_more.specs.declared.crc32.castagnoli_rows.TheConstants.{CASTAGNOLI}
use Rattle.hash_more.proofs.Crc32Texts.{entry}
use Rattle.hash_more.proofs.crc32.CastagnoliPolynomial.byte_out.Goals as goal

pub returns : goal.returns
returns c = rw c.from.ensures (entry castagnoli c.args.zeros c.args.byte CASTAGNOLI refl c.requires (omega arith))
