use Rattle.std.proofs.Common.{sym}
use Rattle.std.proofs.lemmas.List.Elements.{All-from_get_or}
use Rattle.hash_words.proofs.PieceLemmas.{IsByte}
use Rattle.hash_blocks.proofs.FourWords.{four_words}
use Rattle.hash_blocks.proofs.xxhash.at_32.words_of.Goals as goal

pub returns : goal.returns
returns c =
    let block = c.args.block.now in
    rw (c.le_two-low.ensures.first, c.le_two-low.ensures.second)
    (sym (four_words block (All-from_get_or IsByte block 0 (λ i below. c.fits-block i)) c.told-block))
