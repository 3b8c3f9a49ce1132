use Rattle.hash_more.proofs.Crc32Common.{◌%◌, ◌^◌, rules, lit<, arith, xor_lt, all_ones, crc_answer}
use Rattle.hash_more.proofs.Crc32Endings.{four_bytes_out, ending_of-leads}
use Rattle.hash_more.proofs.crc32.ending.Goals as goal

pub returns : goal.returns
returns g c =
    let p = g.P.Polynomial.POLYNOMIAL in
    let before = c.args.hash % 2 ^ 32 in
    rw c.to_le_bytes.ensures (ending_of-leads p g.met.P.Polynomial.highest (crc_answer before) c.byte_in-word.result _
    (xor_lt 32 before all_ones (omega arith) (lit< tt)) (search rules)
    (four_bytes_out p _ _ _ _ _ c.byte_in.ensures c.byte_in-2.ensures c.byte_in-3.ensures c.byte_in-word.ensures))
