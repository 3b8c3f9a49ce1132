use Rattle.hash_bloom.proofs.Common.{common_steps, nat_tests}
use Rattle.hash_bloom.proofs.Lemmas.{rules, ◌≡◌, ◌∙◌, ap, Some, Err, behind_numbers, behind_title, header_parts, header_read, left_behind, same_field, arith}
use Rattle.hash_bloom.proofs.file.read_header.Goals as goal

pub returns-in_err-read_title-clause-refused : goal.returns-in_err-read_title-clause-refused
returns-in_err-read_title-clause-refused g c =
    let is : c.from_residual.result ≡ Err c.in_err-read_title.field-0.0 = search rules in
    rw is (λ refusal bits probes few low rest known.
    c.in_err-read_title.ensures.refused refusal _ (known ∙ ap Some (header_parts bits probes c.args.pair.now rest)))

pub returns-in_err-bits-clause-refused : goal.returns-in_err-bits-clause-refused
returns-in_err-bits-clause-refused g c =
    let is : c.from_residual-in_err-bits.result ≡ Err c.in_err-bits.field-0.0 = search rules in
    rw is (λ refusal bits probes few low rest known.
    c.in_err-bits.ensures.refused refusal bits few _
    (behind_title _ _ bits probes c.args.pair.now rest c.in_ok-read_title.ensures.read known))

pub returns-in_err-probes-clause-refused : goal.returns-in_err-probes-clause-refused
returns-in_err-probes-clause-refused g c =
    let is : c.from_residual-in_err-probes.result ≡ Err c.in_err-probes.field-0.0 = search rules in
    rw is (λ refusal bits probes few low rest known.
    let at_bits = behind_title _ _ bits probes c.args.pair.now rest c.in_ok-read_title.ensures.read known in
    let (b, left) = same_field _ _ 16 c.in_ok-bits.bits bits _ c.in_ok-bits.ensures.small few c.in_ok-bits.ensures.read at_bits in
    c.in_err-probes.ensures.refused refusal probes low _ left)

pub returns-in_err-expect-clause-refused : goal.returns-in_err-expect-clause-refused
returns-in_err-expect-clause-refused g c =
    let is : c.from_residual-in_err-expect.result ≡ Err c.in_err-expect.field-0.0 = search rules in
    rw is (λ refusal bits probes few low rest known.
    let (b, p, left) = behind_numbers _ _ _ c.in_ok-bits.bits c.in_ok-probes.probes bits probes _ c.in_ok-bits.ensures.small
    c.in_ok-probes.ensures.small few low c.in_ok-bits.ensures.read c.in_ok-probes.ensures.read
    (behind_title _ _ bits probes c.args.pair.now rest c.in_ok-read_title.ensures.read known) in
    c.in_err-expect.ensures.refused refusal _ left)

pub returns-in_err-expect-2-clause-refused : goal.returns-in_err-expect-2-clause-refused
returns-in_err-expect-2-clause-refused g c =
    let is : c.from_residual-in_err-expect-2.result ≡ Err c.in_err-expect-2.field-0.0 = search rules in
    rw is (λ refusal bits probes few low rest known.
    let (b, p, left) = behind_numbers _ _ _ c.in_ok-bits.bits c.in_ok-probes.probes bits probes _ c.in_ok-bits.ensures.small
    c.in_ok-probes.ensures.small few low c.in_ok-bits.ensures.read c.in_ok-probes.ensures.read
    (behind_title _ _ bits probes c.args.pair.now rest c.in_ok-read_title.ensures.read known) in
    c.in_err-expect-2.ensures.refused refusal rest (left_behind _ _ c.args.pair.now _ c.in_ok-expect.ensures.read left))

pub returns-clause-read : goal.returns-clause-read
returns-clause-read g c = grind (arith, nat_tests, common_steps, header_read)
