use Rattle.hash_lines.proofs.Lemmas.{crc_found, no_crc}
use Rattle.hash_lines.proofs.forms.sfv_parts.Goals as goal

pub returns-then-begins_with_sum : goal.returns-then-begins_with_sum
returns-then-begins_with_sum c =
    let (word, behind, has, is) = c.begins_with_sum.ensures.some c.if-begins_with_sum.true in no_crc c.args.line.now word behind has is

pub returns-else-begins_with_sum : goal.returns-else-begins_with_sum
returns-else-begins_with_sum c =
    crc_found c.args.line.now c.in-None.ensures (c.begins_with_sum.ensures.none c.if-begins_with_sum.false) c.before_digits.result
    c.before_digits.ensures
