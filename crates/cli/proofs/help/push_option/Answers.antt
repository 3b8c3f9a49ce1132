use Rattle.cli.proofs.Common.{◌==◌, ◌++◌, ◌∙◌, length, string_bytes, arith, sym, ap, in_column, slice_split}
use Rattle.std.proofs.lemmas.Grind.{common_steps}
use Rattle.std.proofs.lemmas.Iterator.Consumers.{YieldsList-turn, YieldsList-end}
use Rattle.std.proofs.lemmas.Iterator.Splits.{YieldsList-from_str_split}
use Rattle.std.proofs.lemmas.List.{append-nil, at_drop_more, drop_all, length_push}
use Rattle.cli.proofs.help.push_option.Goals as goal

pub loop-line-preserved : goal.loop-line-preserved
loop-line-preserved c =
    let split = c.split-line-items.ensures in
    let lines = slice_split (λ byte. byte == 10) c.args.opt.now.words.now in
    let into = c.into_iter-line-iterator.ensures.into_iter_gives in
    let gives = YieldsList-from_str_split {s = c.into_iter-line-iterator.result} 10 c.args.opt.now.words.now (omega arith) (cc) (cc) (cc) in
    let t = YieldsList-turn gives c.loop-line.yielded _ c.loop-line.yielded_by _ _ c.in-Some.line c.in-Some.is c.next.ensures.steps in
    let here = at_drop_more (in_column c.args.column c.loop-line.at) lines (length c.loop-line.yielded) c.in-Some.line.now t.0 in
    let is = t.1 in
    let n = length_push c.loop-line.yielded c.in-Some.line in
    let all = c.loop-line.invariant in
    let spaces = c.in_ok-push_spaces.ensures in
    let line = c.in_ok-push_str-2.ensures.bytes in
    let newline = c.in_ok-push.ensures.bytes in
    grind (arith, common_steps)

pub returns : goal.returns
returns c =
    let split = c.split-line-items.ensures in
    let lines = slice_split (λ byte. byte == 10) c.args.opt.now.words.now in
    let into = c.into_iter-line-iterator.ensures.into_iter_gives in
    let gives = YieldsList-from_str_split {s = c.into_iter-line-iterator.result} 10 c.args.opt.now.words.now (omega arith) (cc) (cc) (cc) in
    let t = YieldsList-end gives c.loop-line.yielded _ c.loop-line.yielded_by _ _ c.in-None.is c.next.ensures.steps in
    sym (append-nil (string_bytes c.loop-line.text))
    ∙ ap (λ rest. string_bytes c.loop-line.text ++ in_column c.args.column c.loop-line.at rest) (sym (drop_all (length c.loop-line.yielded) lines (omega (arith, t.1))))
    ∙ c.loop-line.invariant
