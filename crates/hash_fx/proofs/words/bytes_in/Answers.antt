use Rattle.hash_fx.proofs.Common.{ap, ap₂, fold, sym, ◌∙◌, take_all, fold_more}
use Rattle.hash_fx.proofs.words.bytes_in.Goals as goal

pub loop-byte-preserved : goal.loop-byte-preserved
loop-byte-preserved g c =
    let step = g.W.FxWord.step in
    c.word_in-h.ensures ∙ ap₂ step c.loop-byte.invariant c.byte.ensures
    ∙ sym (fold_more step (g.W.Word.number c.args.state) c.args.bytes.now c.loop-byte.byte-index 0 c.loop-byte-test.true)

pub returns : goal.returns
returns g c =
    c.loop-byte.invariant ∙ ap (fold g.W.FxWord.step (g.W.Word.number c.args.state)) (take_all _ _ c.loop-byte-test.false)
