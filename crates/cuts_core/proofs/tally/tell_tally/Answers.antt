use Rattle.cuts_core.proofs.Common.{inr, subst, ◌∙◌, IsCounted, Sum, sum_by, writer_contents, all_given, AppendsPart}
use Rattle.cuts_core.proofs.TallyLemmas.{lines_counted}
use Rattle.cuts_core.proofs.tally.tell_tally.Goals as goal

pub returns-in-Ok-clause-told : goal.returns-in-Ok-clause-told
returns-in-Ok-clause-told g c =
    let contents = writer_contents g.W.Write.contents in
    let (files, are_cut, counted) = c.in_ok-all.ensures in
    let tally = c.count_files.new.tally in
    let counts = subst (λ (kind : Sum). IsCounted (sum_by kind) (all_given files) tally) c.new-tally.ensures.kind counted in
    inr (
      files,
      c.in_ok-all.all,
      are_cut,
      subst (AppendsPart (contents c.args.w.now) (contents c.write_out.new.w)) (c.deref.ensures.value ∙ c.in-Ok.ensures
          ∙ lines_counted (sum_by c.args.kind) (all_given files) tally counts) c.in-Err-write_out.ensures.told.0,
    )
