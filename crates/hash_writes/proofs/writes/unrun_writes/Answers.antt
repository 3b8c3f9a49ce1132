use Rattle.hash_writes.proofs.Common.{◌≡◌, rev_source, iter_rest, written}
use Rattle.hash_writes.proofs.WriteLemmas.{none_taken, one_more_taken, all_taken}
use Rattle.hash_writes.proofs.writes.unrun_writes.Goals as goal

pub loop-write-init : goal.loop-write-init
loop-write-init g c =
    let H = g.H.Piecewise in
    let whole : iter_rest (rev_source c.into_iter-write-iterator.result) ≡ c.args.writes.now = cc in
    none_taken written H.in_range H.after _ _ _ whole

pub loop-write-preserved : goal.loop-write-preserved
loop-write-preserved g c =
    let H = g.H.Piecewise in
    one_more_taken written H.in_range H.after g.met.H.Piecewise.after_in_range _ _ _ _ _ _ _ c.in-Some.ensures.steps c.take_back.ensures
    c.loop-write.invariant

pub returns : goal.returns
returns g c =
    let H = g.H.Piecewise in
    let all = all_taken written H.in_range H.after _ _ _ _ c.in-None.ensures.steps.0 c.loop-write.invariant in
    record { back = all.0; undone = all.1; texts = all.2 }
