use Rattle.hash_theorems.proofs.BlockCommon.{◌≡◌, fold, reverse, rev_source, iter_rest, le, blocks_before, four_out}
use Rattle.hash_theorems.proofs.blocks.xxh32.fours_out.Given as goal

abbrev pub invariant-loop-four : goal.invariant-loop-four
invariant-loop-four l =
    fold (λ h block. four_out h (le block)) l.before (reverse (iter_rest (rev_source l.four-iterator)))
    ≡ blocks_before 4 (λ h block. four_out h (le block)) l.h l.text
