use Rattle.hashsum_core.proofs.Common.{arith, nat_tests, common_steps}
use Rattle.hashsum_core.proofs.ListLemmas.{list_ended, so_far_more, so_far_start, torn_off}
use Rattle.hashsum_core.proofs.check.check_lines.Goals as goal

pub loop-number-init : goal.loop-number-init
loop-number-init g c = grind (arith, nat_tests, common_steps, so_far_start)

pub returns-in-Err-tell_line-clause-told : goal.returns-in-Err-tell_line-clause-told
returns-in-Err-tell_line-clause-told g c =
    torn_off c.args.kinds.now c.args.checking (g.F.Folder.opens c.args.folder.now) c.args.list.now _ _ _ _ _ _ c.loop-number.counts
    c.next_line.new.line.items c.deref.result.now c.in-Err-tell_line.fault c.loop-number.invariant.told
    (c.in-Ok-true.ensures.some c.in-Ok-true.field-0-test) c.deref.ensures.value c.in-Err-tell_line.ensures.told

pub loop-number-preserved : goal.loop-number-preserved
loop-number-preserved g c = record {
  told = so_far_more c.args.kinds.now c.args.checking (g.F.Folder.opens c.args.folder.now) c.args.list.now _ _ _ _ _ _ c.loop-number.counts
      c.count-counts.result c.next_line.new.line.items c.deref.result.now c.in-Ok.came c.loop-number.invariant.told
      (c.in-Ok-true.ensures.some c.in-Ok-true.field-0-test) c.deref.ensures.value c.in-Ok.ensures.told c.count-counts.ensures;
  flushed = λ empty. c.in-Ok.ensures.flushed;
}

pub returns-in-Ok-false-clause-told : goal.returns-in-Ok-false-clause-told
returns-in-Ok-false-clause-told g c =
    list_ended c.args.kinds.now c.args.checking (g.F.Folder.opens c.args.folder.now) c.args.list.now _ _ _ _ c.loop-number.counts
    c.loop-number.invariant.told (c.in-Ok-false.ensures.none c.in-Ok-false.field-0-test).end
