use Rattle.hash_fx.proofs.Common.{◌∙◌, ap, sym, map, fold, le, recurrence-fold, fx64_step, words32}
use Rattle.hash_fx.proofs.WordParts.{words64-parts, steps-parts}
use Rattle.hash_fx.proofs.word.U64FxSplit.words_out.Goals as goal

pub returns : goal.returns
returns c =
    let taken = c.as_chunks.result in
    let others = words32 taken.1.now in
    let parts = words64-parts c.args.piece.now taken.0.now taken.1.now c.as_chunks.ensures.front c.as_chunks.ensures.back in
    steps-parts fx64_step _ (map le taken.0.now) others _ parts ∙ ap (λ s. fold fx64_step s others) c.eights_out.ensures
    ∙ sym (recurrence-fold fx64_step c.fours_and_bytes_out.result others) ∙ c.fours_and_bytes_out.ensures
