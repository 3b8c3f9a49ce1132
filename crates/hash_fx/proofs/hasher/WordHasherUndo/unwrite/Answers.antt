use Rattle.hash_fx.proofs.Common.{◌^◌, ◌∙◌, ap, sym, recurrence-fold, recurrence}
use Rattle.hash_laws.proofs.ItemLemmas.{piece_injective}
use Rattle.hash_laws.specs.TextLaws.{IsText-from_slice}
use Rattle.hash_fx.proofs.hasher.WordHasherUndo.unwrite.Goals as goal

pub returns-clause-undone : goal.returns-clause-undone
returns-clause-undone g c s known led =
    let W = g.W.FxWord in
    let number = g.W.Word.number in
    let words = g.W.FxSplit.words in
    let word = g.met.W.FxWord in
    let split = g.met.W.FxSplit in
    ap number c.known-self-inside.ensures.same ∙ piece_injective W.step (2 ^ W.bits) (λ s piece. recurrence W.step s (words piece)) words
    (λ s piece. recurrence-fold W.step s (words piece)) word.facts.in_range split.words_in_range word.facts.state_injective
    _ s c.args.piece.now c.known-self-inside.ensures.in_range known (IsText-from_slice _ c.type_inv.piece)
    (c.words_out.ensures ∙ ap number c.self.view_is ∙ sym led)
