use Rattle.hash_cuts.proofs.Common.{◌≡◌, ◌<◌, ℕ, length, slice_index, gear}
use Rattle.hash_cuts.proofs.gear.numbers_of.Given as goal

abbrev pub invariant-loop-byte : goal.invariant-loop-byte
invariant-loop-byte l =
    (length l.numbers ≡ 256)
    × ((b : ℕ) → b < l.byte → slice_index l.numbers b ≡ gear l.seed1 l.seed2 b)
