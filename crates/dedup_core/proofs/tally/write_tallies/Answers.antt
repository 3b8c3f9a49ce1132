use Rattle.dedup_core.proofs.Common.{nat_tests}
use Rattle.dedup_core.proofs.Lemmas.{arith, ◌∙◌, Appends-trans, drop_all, on_err, part_behind, part_longer, listed, listed_more, listed_told, common_steps}
use Rattle.std.proofs.lemmas.List.{append-nil}
use Rattle.dedup_core.proofs.tally.write_tallies.Goals as goal

pub returns-in_err-show-clause-err : goal.returns-in_err-show-clause-err
returns-in_err-show-clause-err g c =
    let (part, written, is) = c.loop-i.invariant in
    on_err _ c.from_residual.result (λ ls now. (part, _, is ∙ listed_told c.args.eol c.args.which ls _ _ now, written))

pub returns-in_err-write_all-clause-err : goal.returns-in_err-write_all-clause-err
returns-in_err-write_all-clause-err g c =
    let (part, written, is) = c.loop-i.invariant in
    let more = listed_more c.args.eol c.args.which c.args.texts.now.texts c.args.times.now c.loop-i.i part _ _ _ (omega arith) (omega arith)
    c.text_at.ensures (c.deref.ensures.value ∙ c.in_ok-show.ensures) is in
    on_err _ c.from_residual-in_err-write_all.result
    (λ ls now. part_longer _ _ _ _ _ (more ∙ listed_told c.args.eol c.args.which ls _ _ now)
    (part_behind _ _ _ _ _ written c.in_err-write_all.ensures.err))

pub returns-clause-ok : goal.returns-clause-ok
returns-clause-ok g c = grind (arith, nat_tests, common_steps, drop_all, append-nil, listed, listed_told)

pub loop-i-preserved : goal.loop-i-preserved
loop-i-preserved g c =
    let (part, written, is) = c.loop-i.invariant in
    grind (arith, nat_tests, common_steps, Appends-trans _ _ _ _ _ written c.in_ok-write_all.ensures.ok)
