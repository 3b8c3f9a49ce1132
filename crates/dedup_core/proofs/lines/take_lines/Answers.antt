use Rattle.dedup_core.proofs.Common.{nat_tests}
use Rattle.dedup_core.proofs.Lemmas.{ℕ, List, [], arith, rules, common_steps, first_strip, on_err, leads_both, leads_nowhere, splits_both, splits_line, splits_nowhere, stands_on}
use Rattle.dedup_core.proofs.lines.take_lines.Goals as goal

pub loop-found-init : goal.loop-found-init
loop-found-init g c = ([], splits_nowhere _, leads_nowhere _, grind (arith, common_steps), omega arith, search rules)

pub take_line-requires-clause-stands : goal.take_line-requires-clause-stands
take_line-requires-clause-stands g c = search (rules, stands_on)

pub take_line-requires-clause-text : goal.take_line-requires-clause-text
take_line-requires-clause-text g c = grind (arith, nat_tests, common_steps, first_strip)

pub loop-found-preserved : goal.loop-found-preserved
loop-found-preserved g c =
    let (ls, splits, leads, is, within, next) = c.loop-found.invariant in
    let line : List ℕ = c.split_at.result.0.now in
    let rest : List ℕ = c.loop-found.rest.now in
    let back = c.split_at.ensures.back in
    let first = splits_line rest line c.split_at.result.1.now c.in-Some.found.len c.split_at.ensures.front back c.in-Some.ensures.found.end
    in grind (arith, nat_tests, common_steps, splits_both splits first, leads_both leads c.in_ok-take_line.ensures.ok)

pub returns-in_err-take_line-clause-broke : goal.returns-in_err-take_line-clause-broke
returns-in_err-take_line-clause-broke g c =
    let (ls, splits, leads, is, within, next) = c.loop-found.invariant in
    let first = splits_line c.loop-found.rest.now c.split_at.result.0.now c.split_at.result.1.now c.in-Some.found.len
    c.split_at.ensures.front c.split_at.ensures.back c.in-Some.ensures.found.end in
    on_err _ c.from_residual.result (_, _, splits_both splits first, leads_both leads c.in_err-take_line.ensures.err)
