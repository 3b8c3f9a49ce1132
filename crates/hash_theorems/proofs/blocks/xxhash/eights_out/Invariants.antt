use Rattle.hash_theorems.proofs.BlockCommon.{◌≡◌, fold, reverse, rev_source, iter_rest, le, blocks_before, eight_out}
use Rattle.hash_theorems.proofs.blocks.xxhash.eights_out.Given as goal

abbrev pub invariant-loop-eight : goal.invariant-loop-eight
invariant-loop-eight l =
    fold (λ h block. eight_out h (le block)) l.before (reverse (iter_rest (rev_source l.eight-iterator)))
    ≡ blocks_before 8 (λ h block. eight_out h (le block)) l.h l.text
