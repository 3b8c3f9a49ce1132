use Rattle.dedup_core.proofs.Common.{nat_tests}
use Rattle.dedup_core.proofs.Lemmas.{sym, arith, eqb-false, bare_line, strip_bare, on_err, breaks_behind, leads_kept, common_steps}
use Rattle.dedup_core.proofs.run.take_last.Goals as goal

pub take_line-requires-clause-text : goal.take_line-requires-clause-text
take_line-requires-clause-text g c = sym (strip_bare c.args.eol c.args.line.now c.requires.bare)

pub returns-in_err-take_line-clause-broke : goal.returns-in_err-take_line-clause-broke
returns-in_err-take_line-clause-broke g c =
    let alone = bare_line c.args.eol c.args.line.now c.requires.bare (omega (arith, eqb-false _ _ (sym c.if-is_empty.ensures))) in
    on_err _ c.from_residual.result (rw alone c.in_err-take_line.ensures.err)

pub returns-in_err-flush-clause-broke : goal.returns-in_err-flush-clause-broke
returns-in_err-flush-clause-broke g c =
    let alone = bare_line c.args.eol c.args.line.now c.requires.bare (omega (arith, eqb-false _ _ (sym c.if-is_empty.ensures))) in
    on_err _ c.from_residual-in_err-flush.result (rw alone (breaks_behind c.flush.ensures.kept c.in_ok-take_line.ensures.ok))

pub returns-clause-took : goal.returns-clause-took
returns-clause-took g c = grind (arith, nat_tests, common_steps, bare_line, eqb-false, leads_kept)
