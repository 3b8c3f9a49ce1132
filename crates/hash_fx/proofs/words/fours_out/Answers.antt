use Rattle.hash_fx.proofs.Common.{◌≡◌, ◌^◌, ◌<◌, ◌∷◌, [], ap, fold, map, refl, subst, sym, ◌∙◌, length-map, map-append, rev_source, iter_rest, le, undoing_none, undoing_more, undoing_all}
use Rattle.hash_fx.proofs.words.fours_out.Goals as goal

pub loop-four-init : goal.loop-four-init
loop-four-init g c =
    let word = g.W.FxWord in
    let whole : iter_rest (rev_source c.into_iter-four-iterator.result) ≡ c.args.fours.now = cc in
    let known = subst (λ state. g.W.Word.number state < 2 ^ word.bits) (sym c.known-h.ensures.same) c.known-h.ensures.in_range in
    undoing_none word.step (2 ^ word.bits) (fold word.step) (λ s text known. refl) _ _ _ (ap (map le) whole) known

pub loop-four-preserved : goal.loop-four-preserved
loop-four-preserved g c =
    let word = g.W.FxWord in
    undoing_more word.step (2 ^ word.bits) (fold word.step) (λ s text known. refl) _ _ _ (le c.in-Some.four.now) _ _ _
    (ap (map le) c.in-Some.ensures.steps ∙ map-append le _ (c.in-Some.four.now ∷ [])) c.word_out-h.ensures.in_range
    (ap (word.step (g.W.Word.number c.word_out-h.result)) (sym c.four.ensures) ∙ c.word_out-h.ensures.back) c.loop-four.invariant

pub returns : goal.returns
returns g c =
    undoing_all (fold g.W.FxWord.step) (2 ^ g.W.FxWord.bits) _ _ _ _ (length-map _ le ∙ c.in-None.ensures.steps.0) c.loop-four.invariant
    ∙ ap g.W.Word.number c.known-h.ensures.same
