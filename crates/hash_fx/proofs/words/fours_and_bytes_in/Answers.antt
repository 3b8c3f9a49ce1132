use Rattle.hash_fx.proofs.Common.{◌∙◌, ap, sym, map, fold, le}
use Rattle.hash_fx.proofs.WordParts.{words32-parts, steps-parts}
use Rattle.hash_fx.proofs.words.fours_and_bytes_in.Goals as goal

pub returns : goal.returns
returns g c =
    let step = g.W.FxWord.step in
    let fours = c.as_chunks.result.0.now in
    let bytes = c.as_chunks.result.1.now in
    let parts = words32-parts c.args.piece.now fours bytes c.as_chunks.ensures.front c.as_chunks.ensures.back in
    c.bytes_in.ensures ∙ ap (λ s. fold step s bytes) c.fours_in.ensures ∙ sym (steps-parts step _ (map le fours) bytes _ parts)
