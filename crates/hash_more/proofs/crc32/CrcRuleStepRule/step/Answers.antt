use Rattle.hash_more.proofs.Crc32Common.{◌/◌, ap, arith, ◌∙◌, bit_xor, xor_lt, crc_step}
use Rattle.std.proofs.lemmas.Grind.{common_steps}
use Rattle.hash_more.proofs.Crc32Lemmas.{by_table}
use Rattle.hash_more.proofs.crc32.CrcRuleStepRule.step.Goals as goal

pub returns-clause-stepped : goal.returns-clause-stepped
returns-clause-stepped g c =
    let p = g.P.Polynomial.POLYNOMIAL in
    let word = bit_xor c.args.state.now c.from.result in
    ap (λ out. bit_xor out (word / 256)) c.byte_out.ensures ∙ by_table p word ∙ ap (crc_step p c.args.state.now) c.from.ensures

pub returns-clause-in_range : goal.returns-clause-in_range
returns-clause-in_range g c = xor_lt 32 c.byte_out.result _ c.byte_out.type_inv (grind (arith, common_steps))
