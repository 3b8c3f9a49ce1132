use Rattle.hash_bloom.proofs.Common.{common_steps, nat_tests}
use Rattle.hash_bloom.proofs.Lemmas.{rules, ◌≡◌, ◌++◌, ◌<◌, ◌^◌, ℕ, ap, arith, sym, get_or, ◌∙◌, Some, Err, bytes_of, header, seal, filter_of, bytes_tell_words, file_left, file_parts, file_read}
use Rattle.hash_bloom.proofs.file.read_sealed.Goals as goal

pub returns-in_err-bits-clause-refused : goal.returns-in_err-bits-clause-refused
returns-in_err-bits-clause-refused g c = grind (arith, nat_tests, common_steps, file_parts)

pub returns-in_err-expect-clause-refused : goal.returns-in_err-expect-clause-refused
returns-in_err-expect-clause-refused g c =
    let is : c.from_residual-in_err-expect.result ≡ Err c.in_err-expect.field-0.0 = search rules in
    let bits = c.in_ok-bits.bits in
    let probes = c.in_ok-bits.probes in
    let words = c.in_ok-words.words.items in
    let sealed_so : c.seal.result ≡ seal (header bits probes c.args.pair.now ++ bytes_of words) = search rules in
    rw is (λ refusal filter stored rest known.
    let found = file_left _ _ _ bits probes c.args.pair.now words filter rest stored (search rules) (search rules)
    (omega (arith, c.div_ceil.ensures, c.in_ok-words.ensures.count)) (omega (arith, c.div_ceil.ensures, c.in_ok-words.ensures.count))
    c.in_ok-bits.ensures.read c.in_ok-words.ensures.read known in
    c.in_err-expect.ensures.refused refusal rest (found.behind ∙ ap (λ t. Some (t ++ rest)) (sym sealed_so)))

pub returns-clause-read : goal.returns-clause-read
returns-clause-read g c = grind (arith, nat_tests, common_steps, file_read)

pub returns-clause-same : goal.returns-clause-same
returns-clause-same g c filter stored rest known =
    let bits = c.in_ok-bits.bits in
    let probes = c.in_ok-bits.probes in
    let words = c.in_ok-words.words.items in
    let found = file_left _ _ _ bits probes c.args.pair.now words filter rest stored (search rules) (search rules)
    (omega (arith, c.div_ceil.ensures, c.in_ok-words.ensures.count)) (omega (arith, c.div_ceil.ensures, c.in_ok-words.ensures.count))
    c.in_ok-bits.ensures.read c.in_ok-words.ensures.read known in
    let in_words : (i : ℕ) → get_or words i 0 < 2 ^ 64 = search (rules, c.seal.ensures.words) in
    let same : words ≡ filter.words = bytes_tell_words words filter.words in_words stored.words found.bytes in
    λ i. filter_of (found.bits i) (found.probes i) (same i)
