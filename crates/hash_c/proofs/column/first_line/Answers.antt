use Rattle.hash_c.proofs.Common.{◌≡◌, ◌≢◌, ◌+◌, ◌∷◌, ◌∙◌, ℕ, take, ap, sym, arith, rules, tests, take_rest, line_texts}
use Rattle.std.proofs.lemmas.Iterator.{IsFirst-from_position, YieldsList-from_slice}
use Rattle.text_set.proofs.LineLemmas.{bare_text, first_text}
use Rattle.hash_c.proofs.column.first_line.Goals as goal

pub returns-in-Some-clause-first : goal.returns-in-Some-clause-first
returns-in-Some-clause-first c =
    let bytes = c.args.bytes.now in
    let n : ℕ = c.in-Some.n in
    let first = IsFirst-from_position _ _ _ (λ b. b ≡ 10) (λ b. b ≢ 10) c.position.ensures.ran
    (YieldsList-from_slice bytes c.iter.ensures.rest) (λ x q k. search (rules, tests)) (λ x q k. search (rules, tests)) in
    let (within, is, before) = rw c.in-Some.is at first in
    first_text 10 bytes n (within, is 0, λ k less. before k 0 (omega arith) less)
    ∙ sym (ap (λ l. take n bytes ∷ line_texts 10 l) (take_rest bytes (n + 1)))

pub returns-in-None-clause-first : goal.returns-in-None-clause-first
returns-in-None-clause-first c =
    let first = IsFirst-from_position _ _ _ (λ b. b ≡ 10) (λ b. b ≢ 10) c.position.ensures.ran
    (YieldsList-from_slice c.args.bytes.now c.iter.ensures.rest) (λ x q k. search (rules, tests)) (λ x q k. search (rules, tests)) in
    let none = rw c.in-None.is at first in
    bare_text 10 c.args.bytes.now (λ k less. none k 0 (omega arith) less) c.requires
