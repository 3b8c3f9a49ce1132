use Rattle.hash_fx.proofs.Common.{◌≡◌, ◌^◌, ◌<◌, ap, fold, refl, subst, sym, ◌∙◌, rev_source, iter_rest, undoing_none, undoing_more, undoing_all}
use Rattle.hash_fx.proofs.words.bytes_out.Goals as goal

pub loop-byte-init : goal.loop-byte-init
loop-byte-init g c =
    let word = g.W.FxWord in
    let whole : iter_rest (rev_source c.into_iter-byte-iterator.result) ≡ c.args.bytes.now = cc in
    let known = subst (λ state. g.W.Word.number state < 2 ^ word.bits) (sym c.known-h.ensures.same) c.known-h.ensures.in_range in
    undoing_none word.step (2 ^ word.bits) (fold word.step) (λ s text known. refl) _ _ _ whole known

pub loop-byte-preserved : goal.loop-byte-preserved
loop-byte-preserved g c =
    let word = g.W.FxWord in
    undoing_more word.step (2 ^ word.bits) (fold word.step) (λ s text known. refl) _ _ _ c.in-Some.byte.now _ _ _
    c.in-Some.ensures.steps c.word_out-h.ensures.in_range
    (ap (word.step (g.W.Word.number c.word_out-h.result)) (sym c.byte.ensures) ∙ c.word_out-h.ensures.back) c.loop-byte.invariant

pub returns : goal.returns
returns g c =
    undoing_all (fold g.W.FxWord.step) (2 ^ g.W.FxWord.bits) _ _ _ _ c.in-None.ensures.steps.0 c.loop-byte.invariant
    ∙ ap g.W.Word.number c.known-h.ensures.same
