use Rattle.std.proofs.Common.{◌+◌, ◌-◌, ◌<◌, slice_set, ap, sym, ◌∙◌, arith, rules, drop, ◌++◌, [], ◌/◌, ◌%◌, decimal}
use Rattle.std.proofs.lemmas.Fmt.{decimal_digit, decimal_step}
use Rattle.hashof.proofs.Lines.{put_front, put_last, put_whole, length-decimal-step, length-decimal-digit, length-decimal-u64}
use Rattle.hashof.proofs.line.put_line.Goals as goal

pub loop-rest-init : goal.loop-rest-init
loop-rest-init c = record {
  line = ap (λ t. decimal c.args.number ++ t) (put_last c.args.line.now 10 c.told-line);
  room = length-decimal-u64 c.args.number (omega arith);
  within = search rules;
  whole = search rules;
}

pub overflow_sub-at : goal.overflow_sub-at
overflow_sub-at c = omega (arith, c.loop-rest.invariant.room, length-decimal-step c.loop-rest.rest c.loop-rest-test.true (omega arith))

pub loop-rest-preserved : goal.loop-rest-preserved
loop-rest-preserved c =
    let before = c.loop-rest in
    let step = length-decimal-step before.rest c.loop-rest-test.true (omega arith) in
    record {
      line = put_front (decimal (before.rest / 10)) before.line before.at (48 + before.rest % 10)
          (omega (arith, before.invariant.room, step)) (omega (arith, before.invariant.within, before.invariant.whole))
          ∙ ap (λ t. t ++ drop before.at before.line) (sym (decimal_step before.rest c.loop-rest-test.true (omega arith)))
          ∙ before.invariant.line;
      room = omega (arith, before.invariant.room, step);
      within = omega (arith, before.invariant.within);
      whole = search rules;
    }

pub overflow_sub-at-2 : goal.overflow_sub-at-2
overflow_sub-at-2 c = omega (arith, c.loop-rest.invariant.room, length-decimal-digit c.loop-rest.rest c.loop-rest-test.false)

pub returns : goal.returns
returns c =
    let before = c.loop-rest in
    let digit : before.rest < 10 = omega arith in
    put_whole (slice_set before.line (before.at - 1) (48 + before.rest)) _ (before.at - 1) (search rules)
    (put_front [] before.line before.at (48 + before.rest) (omega (arith, before.invariant.room, length-decimal-digit before.rest digit))
    (omega (arith, before.invariant.within, before.invariant.whole))
    ∙ ap (λ t. t ++ drop before.at before.line) (sym (decimal_digit before.rest digit)) ∙ before.invariant.line)
