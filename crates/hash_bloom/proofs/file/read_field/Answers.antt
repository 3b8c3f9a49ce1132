use Rattle.hash_bloom.proofs.Lemmas.{rules, ◌≡◌, length, Some, Err, ap, ◌∙◌, hex_value, hex_value-hex, field_is, field_read}
use Rattle.hash_bloom.proofs.file.read_field.Goals as goal

pub returns-in_default-clause-refused : goal.returns-in_default-clause-refused
returns-in_default-clause-refused g c refusal number small rest known =
    let long : length c.read_exact.new.buf ≡ g.row.DIGITS = search rules in
    let (is, left) = field_is _ _ g.row.DIGITS number c.read_exact.new.buf rest c.in_ok-read_exact.ensures.bytes long known in
    let some : c.hex_number.result ≡ Some number = c.hex_number.ensures.value ∙ ap hex_value is ∙ hex_value-hex g.row.DIGITS number small in
    c.in_default.not-Some number some

pub returns-then-ne-clause-refused : goal.returns-then-ne-clause-refused
returns-then-ne-clause-refused g c refusal number small rest known =
    let long : length c.read_exact.new.buf ≡ g.row.DIGITS = search rules in
    let (is, left) = field_is _ _ g.row.DIGITS number c.read_exact.new.buf rest c.in_ok-read_exact.ensures.bytes long known in
    search (rules, hex_value-hex)

pub returns-in_err-expect-clause-refused : goal.returns-in_err-expect-clause-refused
returns-in_err-expect-clause-refused g c =
    let is : c.from_residual-in_err-expect.result ≡ Err c.in_err-expect.field-0.0 = search rules in
    let long : length c.read_exact.new.buf ≡ g.row.DIGITS = search rules in
    rw is (λ refusal number small rest known.
    let (same, left) = field_is _ _ g.row.DIGITS number c.read_exact.new.buf rest c.in_ok-read_exact.ensures.bytes long known in
    c.in_err-expect.ensures.refused refusal rest left)

pub returns-clause-read : goal.returns-clause-read
returns-clause-read g c = search (rules, field_read)
