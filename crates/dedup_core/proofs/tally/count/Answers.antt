use Rattle.dedup_core.proofs.Lemmas.{rules, ◌≡◌, ap, sym, subst, ◌∙◌, set, ◌∷◌, [], ◌++◌, true, false, StandsAt, has, with_text, Tallies, is_there, not_there}
use Rattle.dedup_core.proofs.TallyLemmas.{as_many, counted_place, one_more, tallies_again, tallies_new}
use Rattle.dedup_core.proofs.tally.count.Goals as goal

pub returns-in-Ok-clause-counted : goal.returns-in-Ok-clause-counted
returns-in-Ok-clause-counted g c = λ eol ls line is now.
    let old = c.args.texts.now.texts in
    let absent : has old c.args.text.now ≡ false = not_there _ c.in_ok-seen.seen.is_new c.in_ok-seen.ensures.new (search rules) in
    subst (Tallies eol (ls ++ line ∷ []) c.see.new.texts.texts) (sym c.in-Ok.ensures.items)
    (tallies_new eol ls old c.args.times.now.items now line c.see.new.texts.texts (ap (has old) is ∙ absent)
    (c.in_ok-seen.ensures.texts ∙ ap (with_text old) (sym is)))

pub returns-clause-counted : goal.returns-clause-counted
returns-clause-counted g c = λ eol ls line is now.
    let old = c.args.texts.now.texts in
    let times = c.args.times.now.items in
    let place = c.in_ok-seen.seen.place in
    let there : has old c.args.text.now ≡ true = is_there _ c.in_ok-seen.seen.is_new c.in_ok-seen.ensures.new (search rules) in
    let (below, was) = counted_place old _ c.args.text.now times place c.index.result.now there c.in_ok-seen.ensures.texts
    c.in_ok-seen.ensures.place (as_many eol ls old times now) c.index.ensures in
    rw c.saturating_add.ensures (subst (λ n. Tallies eol (ls ++ line ∷ []) c.see.new.texts.texts (set times place (one_more n))) (sym was)
    (tallies_again eol ls old times now line c.see.new.texts.texts place (ap (has old) is ∙ there)
    (c.in_ok-seen.ensures.texts ∙ ap (with_text old) (sym is))
    (subst (λ t. StandsAt c.see.new.texts.texts t place) (sym is) c.in_ok-seen.ensures.place)))
