use Rattle.hash_fx.proofs.Common.{◌∙◌, ap, map, fold, le}
use Rattle.hash_fx.proofs.WordParts.{words32-parts, steps-parts}
use Rattle.hash_fx.proofs.words.fours_and_bytes_out.Goals as goal

pub returns : goal.returns
returns g c =
    let taken = c.as_chunks.result in
    let parts = words32-parts c.args.piece.now taken.0.now taken.1.now c.as_chunks.ensures.front c.as_chunks.ensures.back in
    steps-parts g.W.FxWord.step _ (map le taken.0.now) taken.1.now _ parts
    ∙ ap (λ s. fold g.W.FxWord.step s taken.1.now) c.fours_out.ensures ∙ c.bytes_out.ensures
