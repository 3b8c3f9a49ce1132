use Rattle.hash_more.proofs.Crc32Common.{refl, arith, ieee}
use Rattle.hash_more.specs.declared.crc32.ieee_rows.TheConstants.{IEEE}
use Rattle.hash_more.proofs.Crc32Texts.{entry}
use Rattle.hash_more.proofs.crc32.IeeePolynomial.byte_out.Goals as goal

pub returns : goal.returns
returns c = rw c.from.ensures (entry ieee c.args.zeros c.args.byte IEEE refl c.requires (omega arith))
