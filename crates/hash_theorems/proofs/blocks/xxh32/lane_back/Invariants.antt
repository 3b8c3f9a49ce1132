use Rattle.hash_theorems.proofs.BlockCommon.{◌≡◌, fold, reverse, slice_index, rev_source, iter_rest, words_of, lane_back, lane_out}
use Rattle.hash_theorems.proofs.blocks.xxh32.lane_back.Given as goal

abbrev pub invariant-loop-block : goal.invariant-loop-block
invariant-loop-block l =
    fold (λ lane block. lane_out lane (slice_index (words_of block) l.place)) l.before (reverse (iter_rest (rev_source l.block-iterator)))
    ≡ lane_back l.place l.lane l.text
