use Rattle.dedup_core.proofs.Common.{nat_tests, Consumes-nil}
use Rattle.dedup_core.proofs.Lemmas.{[], subst, sym, Keeps-refl, IsBare, on_err, bare_nothing, bare_rest, begins_all, breaks_before, breaks_behind, breaks_within, leads_both, leads_kept, leads_nowhere, reads_on, reads_to_end, reads_to_fault, splits_nowhere, stands_on, takes_on, bare_both, arith, rules, common_steps}
use Rattle.dedup_core.proofs.run.take_input.Goals as goal

pub reads-init : goal.reads-init
reads-init g c = (
  [],
  grind (arith, nat_tests, common_steps, Consumes-nil, splits_nowhere),
  bare_nothing _ c.requires.unread,
  leads_nowhere _,
  c.requires.flushed,
)

pub take_lines-requires : goal.take_lines-requires
take_lines-requires g c = search (rules, stands_on)

pub take_last-requires-clause-stands : goal.take_last-requires-clause-stands
take_last-requires-clause-stands g c = grind (arith, nat_tests, common_steps, stands_on)

pub returns-in_err-fill-clause-broke : goal.returns-in_err-fill-clause-broke
returns-in_err-fill-clause-broke g c =
    let (ls, reads, bare, leads, flushed) = c.reads.invariant in
    let nothing = breaks_before c.requires.grows (Keeps-refl _) [] in
    on_err _ c.from_residual.result (breaks_within reads (splits_nowhere _) (leads_both leads nothing))

pub returns-in_err-len-in-Line-clause-broke : goal.returns-in_err-len-in-Line-clause-broke
returns-in_err-len-in-Line-clause-broke g c =
    let (ls, reads, bare, leads, flushed) = c.reads.invariant in
    let (more, rest, splits, breaks) = rw c.bytes.ensures at c.in_err-len-in-Line.ensures.broke in
    on_err _ c.from_residual-in_err-len-in-Line.result (breaks_within (reads_on reads c.in_ok-fill.ensures) splits (leads_both leads breaks))

pub returns-in_err-flush-in-Line-clause-broke : goal.returns-in_err-flush-in-Line-clause-broke
returns-in_err-flush-in-Line-clause-broke g c =
    let (ls, reads, bare, leads, flushed) = c.reads.invariant in
    let (more, takes, led) = rw c.bytes.ensures at c.in_ok-len-in-Line.ensures.took in
    on_err _ c.from_residual-in_err-flush-in-Line.result
    (breaks_within (reads_on reads c.in_ok-fill.ensures) takes.splits (breaks_behind c.flush.ensures.kept (leads_both leads led)))

pub reads-preserved : goal.reads-preserved
reads-preserved g c =
    let (ls, reads, bare, leads, flushed) = c.reads.invariant in
    let (more, takes, led) = rw c.bytes.ensures at c.in_ok-len-in-Line.ensures.took in (
      _,
      takes_on (reads_on reads c.in_ok-fill.ensures) c.pass.new.self c.pass.ensures takes,
      bare_rest c.pass.new.self c.pass.ensures takes,
      leads_kept c.flush.ensures.kept (leads_both leads led),
      c.in_ok-flush-in-Line.ensures.flushed,
    )

pub returns-in_err-take_last-in-End-clause-broke : goal.returns-in_err-take_last-in-End-clause-broke
returns-in_err-take_last-in-End-clause-broke g c =
    let (ls, reads, bare, leads, flushed) = c.reads.invariant in
    let (none, ended) = rw c.in-End.is at c.in_ok-fill.ensures.has_come in
    on_err _ c.from_residual-in_err-take_last-in-End.result (
      _,
      begins_all _ _ _ _ (reads_to_end (reads_on reads c.in_ok-fill.ensures) ended),
      leads_both leads (rw c.bytes-in-End.ensures at c.in_err-take_last-in-End.ensures.broke),
    )

pub returns-in-End-clause-left : goal.returns-in-End-clause-left
returns-in-End-clause-left g c =
    let (ls, reads, bare, leads, flushed) = c.reads.invariant in
    let (none, ended) = rw c.in-End.is at c.in_ok-fill.ensures.has_come in (
      _,
      reads_to_end (reads_on reads c.in_ok-fill.ensures) ended,
      leads_both leads (rw c.bytes-in-End.ensures at c.in_ok-take_last-in-End.ensures.took),
    )

pub returns-in-Failure-clause-left : goal.returns-in-Failure-clause-left
returns-in-Failure-clause-left g c =
    let (ls, reads, bare, leads, flushed) = c.reads.invariant in
    let none = rw c.in-Failure.is at c.in_ok-fill.ensures.has_come in
    let all = subst (IsBare c.args.eol) (sym c.in_ok-fill.ensures.is) (bare_both c.args.eol _ _ bare none) in
    (ls, reads_to_fault (reads_on reads c.in_ok-fill.ensures) all, leads)

pub returns-clause-left : goal.returns-clause-left
returns-clause-left g c =
    let (ls, reads, bare, leads, flushed) = c.reads.invariant in (ls, reads_to_fault reads bare, leads)
