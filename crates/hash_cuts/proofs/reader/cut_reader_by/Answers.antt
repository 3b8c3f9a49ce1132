use Rattle.hash_cuts.proofs.Common.{None, Some, refl, ◌<◌, ap, subst, sym, arith, OnOk, IsAtEnd, take_all, nat_tests, common_steps}
use Rattle.hash_cuts.proofs.CutLemmas.{first_cut-is}
use Rattle.hash_cuts.proofs.GivenLemmas.{moved-front, reads-all, reads-first, reads-none, reads-refused}
use Rattle.hash_cuts.proofs.reader.cut_reader_by.Goals as goal

pub loop-bytes-init : goal.loop-bytes-init
loop-bytes-init g c = grind (arith, nat_tests, common_steps, reads-none, first_cut-is)

pub returns-in-Err-clause-fault : goal.returns-in-Err-clause-fault
returns-in-Err-clause-fault g c =
    let read = rw (c.has_room.ensures.kept c.if-not-has_room.false) at c.read_more-count.ensures.read in
    let (rest, some, gives) = rw c.front-whole.ensures at c.in-Err.ensures.some in
    (_, rest, _, omega (arith, c.read_more-count.ensures.within, c.min-room.ensures, c.loop-bytes.invariant.within), (some, refl), reads-first c.loop-bytes.invariant.cut read gives)

pub returns-in-Err-outcome-clause-fault : goal.returns-in-Err-outcome-clause-fault
returns-in-Err-outcome-clause-fault g c =
    let read = rw (c.has_room.ensures.kept c.if-not-has_room.false) at c.read_more-count.ensures.read in
    let ok = rw c.front-whole.ensures at c.in-Ok.ensures in
    (_, _, None, omega (arith, c.read_more-count.ensures.within, c.min-room.ensures, c.loop-bytes.invariant.within), (refl, ok.rest, refl), reads-first c.loop-bytes.invariant.cut read ok.gives)

pub returns-in-Err-give_last-clause-fault : goal.returns-in-Err-give_last-clause-fault
returns-in-Err-give_last-clause-fault g c =
    let read = rw (c.has_room.ensures.kept c.if-not-has_room.false) at c.read_more-count.ensures.read in
    let ok = rw c.front-whole.ensures at c.in-Ok.ensures in
    let moved = moved-front _ c.to_front-kept.new.buffer.items c.in-Ok.given _ _ ok.within c.to_front-kept.ensures.count
    c.to_front-kept.ensures.kept in
    let (some, torn) = rw (c.front-last.ensures, moved) at c.in-Err-give_last.ensures.err in (
      _,
      _,
      Some _,
      omega (arith, c.read_more-count.ensures.within, c.min-room.ensures, c.loop-bytes.invariant.within),
      (some, ap Some (sym (take_all _ _ (omega (arith, ok.rest.0))))),
      reads-refused (reads-first c.loop-bytes.invariant.cut read ok.gives) torn,
    )

pub returns-in-Ok-give_last-clause-all : goal.returns-in-Ok-give_last-clause-all
returns-in-Ok-give_last-clause-all g c ended =
    let read = rw (c.has_room.ensures.kept c.if-not-has_room.false) at c.read_more-count.ensures.read in
    let ok = rw c.front-whole.ensures at c.in-Ok.ensures in
    let moved = moved-front _ c.to_front-kept.new.buffer.items c.in-Ok.given _ _ ok.within c.to_front-kept.ensures.count
    c.to_front-kept.ensures.kept in
    let end = subst (λ r. OnOk r (c.read_more-count.result.0 < c.min-room.result → IsAtEnd (g.R.Read.remaining c.read_more-count.new.r)))
    c.in_default.is c.read_more-count.ensures.end c.if-count-room.true in
    let last = rw (c.front-last.ensures, moved) at c.in-Ok-give_last.ensures in
    reads-all (reads-first c.loop-bytes.invariant.cut read ok.gives) c.most-most.ensures.sizes end ok.rest last.none last.one

pub loop-bytes-preserved : goal.loop-bytes-preserved
loop-bytes-preserved g c =
    let read = rw (c.has_room.ensures.kept c.if-not-has_room.false) at c.read_more-count.ensures.read in
    let ok = rw c.front-whole.ensures at c.in-Ok.ensures in
    let moved = moved-front _ c.to_front-kept.new.buffer.items c.in-Ok.given _ _ ok.within c.to_front-kept.ensures.count
    c.to_front-kept.ensures.kept in
    grind (arith, nat_tests, common_steps, reads-first)
