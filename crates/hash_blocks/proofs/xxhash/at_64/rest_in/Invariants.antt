use Rattle.std.proofs.Common.{◌≡◌, fold, take}
use Rattle.hash_words.specs.Words.{le}
use Rattle.hash_blocks.specs.Xxh64.{eight_in, four_in, byte_in}
use Rattle.hash_blocks.proofs.xxhash.at_64.rest_in.Given as goal

abbrev pub invariant-loop-eight : goal.invariant-loop-eight
invariant-loop-eight l = l.mixed ≡ fold (λ h block. eight_in h (le block)) l.initial.mixed (take l.eight-index l.eights)

abbrev pub invariant-loop-four : goal.invariant-loop-four
invariant-loop-four l = l.mixed ≡ fold (λ h block. four_in h (le block)) l.initial.mixed (take l.four-index l.fours)

abbrev pub invariant-loop-byte : goal.invariant-loop-byte
invariant-loop-byte l = l.mixed ≡ fold byte_in l.initial.mixed (take l.byte-index l.bytes)
