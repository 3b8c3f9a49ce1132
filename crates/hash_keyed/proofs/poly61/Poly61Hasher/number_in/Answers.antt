use Rattle.std.proofs.lemmas.Bool.Decides.{nat_tests}
use Rattle.std.proofs.Common.{rules}
use Rattle.hash_keyed.proofs.Lemmas.{ap, ◌∙◌, arith, le_bytes, after, number_kept, number_fills, number_fills_two, rest-lt, common_steps}
use Rattle.hash_keyed.proofs.poly61.Poly61Hasher.number_in.Goals as goal

pub invariant_of-self : goal.invariant_of-self
invariant_of-self c =
    let j = c.joined-first.ensures in
    record {
      key_in = c.self.invariant.key_in;
      state_in = c.self.invariant.state_in;
      word_in = (number_kept c.self.inside c.self.invariant _ _ _ _ c.requires.short c.requires.within j.whole j.small c.if-all-lt7.true).0;
      count_in = c.if-all-lt7.true;
    }

pub invariant_of-self-then-all-lt14 : goal.invariant_of-self-then-all-lt14
invariant_of-self-then-all-lt14 c = search (rules, rest-lt)

pub returns-then-all-lt7 : goal.returns-then-all-lt7
returns-then-all-lt7 c =
    let j = c.joined-first.ensures in
    (number_kept c.self.inside c.self.invariant _ _ _ _ c.requires.short c.requires.within j.whole j.small c.if-all-lt7.true).1
    ∙ ap (λ at. after at (le_bytes c.args.count c.args.number)) c.self.view_is

pub returns-then-all-lt14 : goal.returns-then-all-lt14
returns-then-all-lt14 c =
    let j = c.joined-first.ensures in
    number_fills c.self.inside c.self.invariant _ _ _ _ c.requires.short c.requires.within j.whole j.small c.if-all-lt7.false
    c.step-self-inside.result c.if-all-lt14.true c.step-self-inside.ensures.same
    ∙ ap (λ at. after at (le_bytes c.args.count c.args.number)) c.self.view_is

pub returns-else-all-lt14 : goal.returns-else-all-lt14
returns-else-all-lt14 c = grind (arith, nat_tests, common_steps, number_fills_two)
