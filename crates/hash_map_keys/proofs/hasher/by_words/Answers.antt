use Rattle.std.proofs.lemmas.Grind.{common_steps}
use Rattle.std.proofs.lemmas.Bool.Decides.{nat_tests}
use Rattle.hash_map_keys.proofs.Common.{ap, ap₂, arith, drop, drop-drop, eqb-true, le, nil_from_length, share, take, ◌%◌, ◌*◌, ◌+◌, ◌-◌, ◌^◌, ◌∙◌, ◌≡◌}
use Rattle.hash_map_keys.proofs.Shares.{nothing_more, word_last, word_more}
use Rattle.hash_map_keys.proofs.hasher.by_words.Goals as goal

pub loop-word-preserved : goal.loop-word-preserved
loop-word-preserved c =
    let t = c.args.multipliers.now in
    let rest = c.loop-word.rest.now in
    let at = c.loop-word.at in
    let bytes = c.args.bytes.now in
    let cut = c.in-Some.ensures.cases in
    let value : c.le64.result ≡ le (take 8 rest) = c.le64.ensures ∙ ap le cut.0 in
    record {
      some = omega (arith, c.loop-word.invariant.some);
      small = c.with_word-sum.type_inv;
      behind = cut.1 ∙ ap (drop 8) c.loop-word.invariant.behind ∙ drop-drop 8 (8 * (at - c.args.words)) bytes
          ∙ ap (λ n. drop n bytes) (let e : 8 * (at - c.args.words) + 8 ≡ 8 * (at + 1 - c.args.words) = omega (arith, c.loop-word.invariant.some) in e);
      room = omega (arith, c.loop-word.invariant.room, cut.2);
      there = ap₂ (λ s more. (s + share t (8 * (at + 1)) more) % 2 ^ 128) c.with_word-sum.ensures cut.1
          ∙ word_more t c.loop-word.sum at c.le64.result rest value (omega (arith, cut.2)) ∙ c.loop-word.invariant.there;
    }

pub returns-then-is_empty : goal.returns-then-is_empty
returns-then-is_empty c = grind (arith, nat_tests, common_steps, nil_from_length, eqb-true, nothing_more)

pub returns-else-is_empty : goal.returns-else-is_empty
returns-else-is_empty c = grind (arith, nat_tests, common_steps, word_last)
