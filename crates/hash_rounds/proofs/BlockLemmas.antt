-- Blocks of joined texts.
use Rattle.hash_rounds.proofs.Common.{◌≡◌, ℕ, ◌*◌, ◌/◌, ◌%◌, ◌<◌, List, [], ◌∷◌, ◌++◌, length, fold, take, drop, refl, sym, ◌∙◌, arith, length-append, length-drop, take-append-drop, length-take-le, fold-append, AreWords, spooky_mix_steps, mix_block, spooky_blocks}
use Rattle.std.specs.Simd.{first_chunks}
use Rattle.hash_words.specs.Pieces.{pieces, le_words}
use Rattle.hash_words.proofs.Chunks.{first_chunks-append}
use Rattle.hash_rounds.proofs.StepLemmas.{apply-words}
use Rattle.hash_rounds.proofs.RoundLemmas.{spooky_mix-steps}

-- the blocks of a text whose first part is whole blocks
pub spooky_blocks-append : (s a b : List ℕ) → length a % 96 ≡ 0 → spooky_blocks s (a ++ b) ≡ spooky_blocks (spooky_blocks s a) b
unfolding spooky_blocks pieces
spooky_blocks-append s a b e =
    rw (first_chunks-append 96 (length a / 96) (length b / 96) (length (a ++ b) / 96) a b (omega (arith, length-append a b)) (omega arith))
    (fold-append (mix_block) s (first_chunks 96 (length a / 96) a) (first_chunks 96 (length b / 96) b))

-- a text of no whole block
pub spooky_blocks_short : (s t : List ℕ) → length t < 96 → spooky_blocks s t ≡ s
unfolding spooky_blocks pieces
spooky_blocks_short s t h =
    let none : length t / 96 ≡ 0 = omega arith in
    rw none refl

-- the whole blocks of a text alone
pub spooky_blocks-take : (s t : List ℕ) (n : ℕ) → n ≡ length t / 96 * 96 → spooky_blocks s (take n t) ≡ spooky_blocks s t
spooky_blocks-take s t n e =
    let whole : length (take n t) ≡ n = length-take-le n t (omega arith) in
    let left : length (drop n t) < 96 = omega (arith, length-drop n t) in
    let cut = rw (take-append-drop n t) at (spooky_blocks-append s (take n t) (drop n t) (omega arith)) in
    sym (cut ∙ spooky_blocks_short (spooky_blocks s (take n t)) (drop n t) left)

-- blocks keep words
fold-words : (s : List ℕ) (blocks : List (List ℕ)) → length s ≡ 12 → AreWords 64 s
    → (length (fold mix_block s blocks) ≡ 12) × AreWords 64 (fold mix_block s blocks)
fold-words s [] twelve s_in = (twelve, s_in)
fold-words s (block ∷ blocks) twelve s_in =
    let kept = apply-words 64 12 spooky_mix_steps (le_words block) s (rw twelve spooky_mix-steps) s_in in
    fold-words (mix_block s block) blocks (kept.0 ∙ twelve) kept.1

pub spooky_blocks-words : (s bytes : List ℕ) → length s ≡ 12 → AreWords 64 s
    → (length (spooky_blocks s bytes) ≡ 12) × AreWords 64 (spooky_blocks s bytes)
unfolding spooky_blocks
spooky_blocks-words s bytes twelve s_in = fold-words s (pieces 96 bytes) twelve s_in
