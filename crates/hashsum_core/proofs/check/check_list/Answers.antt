use Rattle.hashsum_core.proofs.Common.{inl, inr, refl, Keeps-refl, writer_contents, NoMemory}
use Rattle.hashsum_core.proofs.ListLemmas.{list_torn_off}
use Rattle.hashsum_core.proofs.check.check_list.Goals as goal

pub returns-in-Err-with_capacity-clause-told : goal.returns-in-Err-with_capacity-clause-told
returns-in-Err-with_capacity-clause-told g c =
    let held = g.R.Read.remaining c.in-Ok.file in
    inl (
      held,
      c.in-Ok.ensures.opens,
      list_torn_off c.args.kinds.now c.args.checking (g.F.Folder.opens c.args.folder.now) c.args.list.now held
          (writer_contents g.W.Write.contents c.args.w.now) NoMemory,
    )

pub returns-in-Err-clause-told : goal.returns-in-Err-clause-told
returns-in-Err-clause-told g c = inr (c.in-Err.error, c.in-Err.ensures.opens, Keeps-refl (writer_contents g.W.Write.contents c.args.w.now), refl)
