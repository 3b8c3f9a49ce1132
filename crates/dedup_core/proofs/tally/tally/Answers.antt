use Rattle.dedup_core.proofs.Lemmas.{subst, sym, writer_contents, Appends-kept, part_whole, Tallies, told, run_of, breaks_behind_all, ends_broken}
use Rattle.dedup_core.proofs.tally.tally.Goals as goal

pub returns-in_err-flush-clause-ended : goal.returns-in_err-flush-clause-ended
returns-in_err-flush-clause-ended g c =
    let run = run_of g.R.Read.remaining c.args.inputs.now c.take_inputs.new.inputs (writer_contents g.W.Write.contents) c.args.w.now
    c.take_inputs.new.w in
    ends_broken _ _ c.from_residual-in_err-flush.result c.from_residual-in_err-flush.ensures.0
    (breaks_behind_all {output = told c.args.eol c.args.which} _ run (writer_contents g.W.Write.contents c.flush.new.w) _
    c.in_ok-ended.ensures.ended
    (λ ls now. part_whole _ _ _ (Appends-kept _ _ _ _ (c.in_ok-write_tallies.ensures.ok ls
    (subst (Tallies c.args.eol ls c.take_inputs.new.task.texts.texts) (sym c.deref.ensures.value) now)) c.flush.ensures.kept)))
