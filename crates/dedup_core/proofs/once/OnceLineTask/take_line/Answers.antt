use Rattle.dedup_core.proofs.Common.{nat_tests}
use Rattle.dedup_core.proofs.Lemmas.{false, refl, rules, true, Appends-nil, Keeps-refl, once_begins, on_err, breaks_before, is_there, not_there, stops_in_line, takes_line, arith, common_steps}
use Rattle.dedup_core.proofs.once.OnceLineTask.take_line.Goals as goal

pub returns-in_err-see-clause-err : goal.returns-in_err-see-clause-err
returns-in_err-see-clause-err g c = on_err _ c.from_residual.result (breaks_before (once_begins c.args.eol) (Keeps-refl _) _)

pub returns-in_err-write_line-clause-err : goal.returns-in_err-write_line-clause-err
returns-in_err-write_line-clause-err g c =
    on_err _ c.from_residual-in_err-write_line.result
    (stops_in_line c.args.eol c.args.self.now.seen.texts c.args.line.now (not_there _ true (search rules) refl) _ _
    c.in_err-write_line.ensures.err)

pub returns-in_ok-write_line-clause-ok : goal.returns-in_ok-write_line-clause-ok
returns-in_ok-write_line-clause-ok g c =
    takes_line c.args.eol c.args.self.now.seen.texts c.args.line.now _ (search rules) false (not_there _ true (search rules) refl) _ _
    c.in_ok-write_line.ensures.ok

pub returns-else-branch-clause-ok : goal.returns-else-branch-clause-ok
returns-else-branch-clause-ok g c = grind (arith, nat_tests, common_steps, takes_line, is_there, Appends-nil)
