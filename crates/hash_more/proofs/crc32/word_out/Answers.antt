use Rattle.hash_more.proofs.Crc32Texts.{word_by_bytes}
use Rattle.hash_more.proofs.crc32.word_out.Goals as goal

pub returns : goal.returns
returns g c =
    word_by_bytes g.P.Polynomial.POLYNOMIAL c.args.zeros c.args.word _ _ _ _
    c.byte_out.ensures c.byte_out-2.ensures c.byte_out-3.ensures c.byte_out-4.ensures
