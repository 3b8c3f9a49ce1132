use Rattle.std.proofs.lemmas.Bool.Decides.{nat_tests}
use Rattle.hash_keyed.proofs.Lemmas.{◌≡◌, ◌+◌, ◌-◌, ◌/◌, ◌%◌, ◌^◌, ◌∙◌, ap, ap₂, prime61, as_word, joined_value, joined-value, joined_is, arith, common_steps}
use Rattle.hash_keyed.proofs.parts.poly61_combine.Goals as goal

value : (c : goal.After-word_of)
    → c.word_of.result ≡ as_word (joined_value (c.args.key % prime61) c.args.state1 c.args.hash2 c.args.length2)
value c =
    let key = c.args.key % prime61 in
    let before = c.remainder-before.result in
    let number = c.remainder-value.result in
    c.word_of.ensures
    ∙ ap as_word (joined_is key c.args.state1 before c.power-power.result number c.args.hash2 (c.args.length2 / 7 + 2) c.reduced.result
    (c.remainder-before.ensures ∙ ap (λ s. (s + (prime61 - 1)) % prime61) c.remainder-2.ensures)
    (c.power-power.ensures.same ∙ ap (λ k. k ^ (c.args.length2 / 7 + 2) % prime61) c.remainder.ensures)
    c.remainder-value.ensures
    (c.reduced.ensures ∙ c.folded.ensures.same ∙ ap₂ (λ x y. (x + y) % prime61) c.product.ensures c.from.ensures))

pub returns-clause-value : goal.returns-clause-value
returns-clause-value c = value c

pub returns-clause-joined : goal.returns-clause-joined
returns-clause-joined c = λ x y whole long first second.
    let key = c.args.key % prime61 in
    grind (arith, nat_tests, common_steps, value c, joined-value key x y whole)
