use Rattle.hash_more.proofs.Crc32Common.{ap, ◌∙◌, bit_xor, xor_lt, crc_step, crc_back}
use Rattle.hash_more.proofs.crc32.CrcRuleUndoRule.unstep.Goals as goal

pub returns-clause-back : goal.returns-clause-back
returns-clause-back g c =
    let p = g.P.Polynomial.POLYNOMIAL in
    ap (λ byte. crc_step p (bit_xor c.byte_in.result byte) c.args.byte) c.from.ensures
    ∙ crc_back p _ c.args.byte c.byte_in.result c.byte_in.ensures

pub returns-clause-in_range : goal.returns-clause-in_range
returns-clause-in_range g c = xor_lt 32 c.byte_in.result c.from.result c.byte_in.type_inv c.from.type_inv
