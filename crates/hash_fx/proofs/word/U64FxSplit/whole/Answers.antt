use Rattle.hash_fx.proofs.Common.{ap, sym, ◌∙◌, eqb-true, nil_from_length, recurrence, recurrence-nil, fx64_step, words32}
use Rattle.hash_fx.specs.FxLaws.{words32-nil}
use Rattle.hash_fx.proofs.WordParts.{words64_in}
use Rattle.hash_fx.proofs.word.U64FxSplit.whole.Goals as goal

pub returns-then-is_empty : goal.returns-then-is_empty
returns-then-is_empty c =
    let state = c.eights_in-state.result in
    let none = ap words32 (nil_from_length _ (eqb-true _ _ (sym c.if-is_empty.ensures))) ∙ words32-nil in
    words64_in 0 _ _ c.args.text.now _ _ c.as_chunks.ensures.front c.as_chunks.ensures.back c.eights_in-state.ensures
    (sym (ap (recurrence fx64_step state) none ∙ recurrence-nil fx64_step state))

pub returns-else-is_empty : goal.returns-else-is_empty
returns-else-is_empty c =
    words64_in 0 _ _ c.args.text.now _ _ c.as_chunks.ensures.front c.as_chunks.ensures.back c.eights_in-state.ensures
    c.fours_and_bytes_in.ensures
