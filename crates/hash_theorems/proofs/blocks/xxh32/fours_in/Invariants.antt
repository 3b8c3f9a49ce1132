use Rattle.hash_theorems.proofs.BlockCommon.{◌≡◌, fold, take, le, four_in}
use Rattle.hash_theorems.proofs.blocks.xxh32.fours_in.Given as goal

abbrev pub invariant-loop-four : goal.invariant-loop-four
invariant-loop-four l = l.mixed ≡ fold (λ h block. four_in h (le block)) l.initial.mixed (take l.four-index l.fours)
