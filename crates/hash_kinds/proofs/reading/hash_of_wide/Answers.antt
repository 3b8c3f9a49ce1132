use Rattle.std.proofs.Common.{[], sym, ap, ◌∙◌}
use Rattle.hash_laws.proofs.ReadingLemmas.{fold-cut}
use Rattle.hash_kinds.proofs.reading.hash_of_wide.Goals as goal

-- the pieces of a text, fed in order, are the text
pub returns : goal.returns
returns g c =
    let H = g.H.Piecewise in
    let law = g.met.H.Piecewise in
    let stream = g.met.H.Streamed in
    let (text, all, led) = c.in_ok-hasher.ensures in
    let there = led ∙ fold-cut H.in_range H.after law.after_in_range law.after_nothing stream.after_joined g.row.N H.fresh text
    c.requires.not_empty law.fresh_in_range all.is_text ∙ ap (λ s. H.after s text) (sym law.first_is_fresh) in
    let stands = stream.stands_after H.first c.in_ok-hasher.hasher _ [] text all.is_text there
    (stream.stands_at_start H.first law.first_is_fresh) in
    (text, all, c.wide.ensures text stands)
