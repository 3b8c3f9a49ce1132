use Rattle.hash_theorems.proofs.BlockCommon.{◌≡◌, fold, take, le, eight_in}
use Rattle.hash_theorems.proofs.blocks.xxhash.eights_in.Given as goal

abbrev pub invariant-loop-eight : goal.invariant-loop-eight
invariant-loop-eight l = l.mixed ≡ fold (λ h block. eight_in h (le block)) l.initial.mixed (take l.eight-index l.eights)
