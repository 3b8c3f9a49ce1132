use Rattle.dedup_core.proofs.Lemmas.{◌++◌, ap, sym, subst, ◌∙◌, append_assoc, length, Consumes-trans, IsBare, bare_both, found_end, found_none}
use Rattle.dedup_core.proofs.unread.Unread.fill.Goals as goal

pub returns-then-is_some : goal.returns-then-is_some
returns-then-is_some g c =
    let (text, is, bare, read) = c.loop-error.invariant in
    let ((piece, is_more, long, read_more), ended) = rw c.in-Ok.is at c.in_ok-read.ensures in
    record {
      text = text ++ piece;
      is = is_more ∙ ap (λ l. l ++ piece) is ∙ append_assoc c.args.self.now text piece;
      read = Consumes-trans _ _ _ _ _ read read_more;
      has_come = λ bare. found_end c.args.eol c.bytes.result.now _ _ c.line_end.ensures (sym c.if-is_some.ensures)
          (subst (IsBare c.args.eol) (sym c.bytes.ensures) bare);
    }

pub loop-error-preserved : goal.loop-error-preserved
loop-error-preserved g c =
    let (text, is, bare, read) = c.loop-error.invariant in
    let ((piece, is_more, long, read_more), ended) = rw c.in-Ok.is at c.in_ok-read.ensures in
    let bare_more = found_none c.args.eol c.bytes.result.now c.loop-error.self piece _ _ c.line_end.ensures (sym c.if-is_some.ensures)
    (c.bytes.ensures ∙ is_more) (ap length c.bytes-len.ensures) in (
      text ++ piece,
      is_more ∙ ap (λ l. l ++ piece) is ∙ append_assoc c.args.self.now text piece,
      bare_both c.args.eol text piece bare bare_more,
      Consumes-trans _ _ _ _ _ read read_more,
    )
