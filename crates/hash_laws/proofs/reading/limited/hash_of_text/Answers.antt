use Rattle.std.proofs.Common.{sym, ap, ◌∙◌}
use Rattle.hash_laws.proofs.ReadingLemmas.{answer-cut}
use Rattle.hash_laws.proofs.reading.limited.hash_of_text.Goals as goal

-- the pieces of a text, fed in order, are the text
pub returns : goal.returns
returns g c =
    let H = g.H.Piecewise in
    let first = g.met.H.Piecewise in
    let stream = g.met.H.Streamed in
    let (text, all, fed) = c.in_ok-hasher.ensures in (
      text,
      all,
      c.answer.ensures.value ∙ ap H.answer fed
          ∙ answer-cut H.in_range H.after first.after_in_range first.after_nothing stream.after_joined H.answer H.fresh first.fresh_in_range
          H.hash_of (λ text bytes. sym (first.hash_of_is text)) g.row.N c.requires.not_empty text all.is_text,
    )
