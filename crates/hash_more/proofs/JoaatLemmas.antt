-- A word of 32 bits is what the shift of a word of 32 bits is folded onto.
use Rattle.std.proofs.Common.{◌≡◌, ℕ, ◌^◌, ◌<◌, arith}
use Rattle.hash_words.specs.Words.{xorshift}
use Rattle.hash_words.proofs.UndoLemmas.{shifted_by, solved}

pub unshifted_below : (y x k : ℕ) → y < 2 ^ 64 → x < 2 ^ 32 → 0 < k → xorshift y k ≡ x → y < 2 ^ 32
unshifted_below y x k ys xs some solves =
    rw (solved (shifted_by 6 64 k (omega arith)) y x ys solves) ((shifted_by 6 32 k (omega arith)).back_in x xs)
