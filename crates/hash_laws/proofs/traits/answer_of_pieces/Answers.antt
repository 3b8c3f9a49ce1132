use Rattle.hash_laws.specs.Common.{◌≡◌, ◌≢◌, ap, sym, refl, [], ◌∷◌, ◌∙◌, joined}
use Rattle.hash_laws.proofs.traits.answer_of_pieces.Goals as goal

pub returns-clause-defined : goal.returns-clause-defined
returns-clause-defined g c =
    let H = g.H.Streamed in
    c.answer.ensures.value ∙ c.run_streamed.ensures.answers H.start []
    (g.met.H.Streamed.stands_at_start c.fresh-hasher.result c.fresh-hasher.ensures.state)

pub returns-clause-value : goal.returns-clause-value
returns-clause-value g c =
    let H = g.H.Piecewise in
    let laws = g.met.H.Piecewise in
    let ran = c.run_streamed.ensures in
    let state : H.state c.run_streamed.new.h ≡ H.after H.fresh (joined c.args.pieces.now) =
    elim c.args.pieces.now as (λ pieces. (pieces ≡ [] → c.run_streamed.new.h ≡ c.fresh-hasher.result)
    → (pieces ≢ [] → H.state c.run_streamed.new.h ≡ H.after (H.state c.fresh-hasher.result) (joined pieces))
    → H.state c.run_streamed.new.h ≡ H.after H.fresh (joined pieces)) [
      | [] ↦ λ none one. ap H.state (none refl) ∙ c.fresh-hasher.ensures.state ∙ sym (laws.after_nothing H.fresh laws.fresh_in_range)
      | piece ∷ more ↦ λ none one. one (λ e. cc) ∙ ap (λ s. H.after s (joined (piece ∷ more))) c.fresh-hasher.ensures.state
    ] ran.none ran.one in
    c.answer.ensures.value ∙ ap H.answer state ∙ sym (laws.hash_of_is (joined c.args.pieces.now))
