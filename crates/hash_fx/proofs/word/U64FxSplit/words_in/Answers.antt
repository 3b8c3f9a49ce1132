use Rattle.hash_fx.proofs.WordParts.{words64_in}
use Rattle.hash_fx.proofs.word.U64FxSplit.words_in.Goals as goal

pub returns : goal.returns
returns c =
    words64_in _ _ _ c.args.piece.now _ _ c.as_chunks.ensures.front c.as_chunks.ensures.back c.eights_in.ensures
    c.fours_and_bytes_in.ensures
