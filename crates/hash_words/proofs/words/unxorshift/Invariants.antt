use Rattle.hash_words.proofs.Common.{◌≡◌, ◌<◌, ◌-◌, xorshift}
use Rattle.hash_words.proofs.words.unxorshift.Given as goal

-- the shifts so far undo a shift by k down to one by `shift`
abbrev pub invariant-loop-shift : goal.invariant-loop-shift
invariant-loop-shift l = (xorshift l.y l.k ≡ xorshift l.x l.shift) × (0 < l.shift) × (l.shift < 128)

abbrev pub decreases-loop-shift : goal.decreases-loop-shift
decreases-loop-shift l = 128 - l.shift
