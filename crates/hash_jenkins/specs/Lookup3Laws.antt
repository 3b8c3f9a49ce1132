-- Laws of lookup3's two words, which the impls of Lookup3Hasher cite: they stay in range.
use Rattle.std.proofs.Common.{◌≡◌, ℕ, zero, suc, ◌+◌, ◌%◌, ◌^◌, ◌<◌, List, [], ◌∷◌, length, slice_index, refl, ◌∙◌, arith}
use Rattle.std.proofs.lemmas.List.{length-set}
use Rattle.std.proofs.lemmas.Grind.{common_steps}
use Rattle.std.proofs.lemmas.Nat.{mod_below, pow_pos}
use Rattle.hash_words.specs.Pieces.{pieces}
use Rattle.hash_rounds.specs.Steps.{Step, apply, AreSteps}
use Rattle.hash_rounds.specs.Rounds as rounds
use Rattle.hash_words.proofs.WordLemmas.{AreWords-from, AreWords-at}
use Rattle.hash_rounds.proofs.StepLemmas.{apply-words}
use Rattle.hash_laws.specs.Text.{IsText}
use Rattle.hash_jenkins.specs.Lookup3.{add_word, add_words, add_block, mix_block, mix_blocks, start, last_block, lookup3_words, lookup3_from, AreTwoWords}

-- three words of 32 bits
abbrev pub AreThreeWords : List ℕ → Type 0
AreThreeWords s = (length s ≡ 3) × ((i : ℕ) → slice_index s i < 2 ^ 32)

pub lookup3_mix-steps : AreSteps 32 3 0 rounds.lookup3_mix_steps
unfolding rounds.lookup3_mix_steps
lookup3_mix-steps = refl

pub lookup3_final-steps : AreSteps 32 3 0 rounds.lookup3_final_steps
unfolding rounds.lookup3_final_steps
lookup3_final-steps = refl

pub apply-AreThreeWords : (steps : List Step) (s : List ℕ) → AreSteps 32 3 0 steps → AreThreeWords s → AreThreeWords (apply 32 steps [] s)
apply-AreThreeWords steps s are known =
    let kept = apply-words 32 0 steps [] s (rw known.0 are) (AreWords-from 32 s known.1) in
    (kept.0 ∙ known.0, AreWords-at 32 (apply 32 steps [] s) kept.1)

add_word-AreThreeWords : (s : List ℕ) (i x : ℕ) → AreThreeWords s → AreThreeWords (add_word s i x)
add_word-AreThreeWords s i x known =
    (length-set s i ((slice_index s i + x) % 2 ^ 32) ∙ known.0, λ j. let old = known.1 j in grind (arith, common_steps))

add_words-AreThreeWords : (s : List ℕ) (x y z : ℕ) → AreThreeWords s → AreThreeWords (add_words s (x, y, z))
add_words-AreThreeWords s x y z known =
    add_word-AreThreeWords _ 2 z (add_word-AreThreeWords _ 1 y (add_word-AreThreeWords s 0 x known))

pub add_block-AreThreeWords : (s block : List ℕ) → AreThreeWords s → AreThreeWords (add_block s block)
add_block-AreThreeWords s block known = add_words-AreThreeWords s _ _ _ known

mix_blocks-AreThreeWords : (blocks : List (List ℕ)) (s : List ℕ) → AreThreeWords s → AreThreeWords (mix_blocks s blocks)
mix_blocks-AreThreeWords [] s known = known
mix_blocks-AreThreeWords (block ∷ blocks) s known =
    mix_blocks-AreThreeWords blocks (mix_block s block) (apply-AreThreeWords rounds.lookup3_mix_steps _ lookup3_mix-steps
    (add_block-AreThreeWords s block known))

pub start-AreThreeWords : (pc pb n : ℕ) → AreThreeWords (start pc pb n)
start-AreThreeWords pc pb n = (refl, below) where
  below : (i : ℕ) → slice_index (start pc pb n) i < 2 ^ 32
  below zero = mod_below _ (2 ^ 32) (pow_pos 32)
  below (suc zero) = mod_below _ (2 ^ 32) (pow_pos 32)
  below (suc (suc zero)) = mod_below _ (2 ^ 32) (pow_pos 32)
  below (suc (suc (suc i))) = pow_pos 32

pub lookup3_words-AreThreeWords : (pc pb : ℕ) (piece : List ℕ) → AreThreeWords (lookup3_words pc pb piece)
lookup3_words-AreThreeWords pc pb piece =
    let mixed = mix_blocks-AreThreeWords (pieces 12 piece) _ (start-AreThreeWords pc pb (length piece)) in
    apply-AreThreeWords rounds.lookup3_final_steps _ lookup3_final-steps (add_block-AreThreeWords _ (last_block piece) mixed)

-- a piece leads from two words to two words
pub lookup3-AreTwoWords : (s : ℕ × ℕ) (piece : List ℕ) → AreTwoWords s → IsText piece → AreTwoWords (lookup3_from s piece)
lookup3-AreTwoWords s [] known text = known
lookup3-AreTwoWords s (byte ∷ piece) known text =
    let are = lookup3_words-AreThreeWords s.0 s.1 (byte ∷ piece) in
    (are.1 2, are.1 1)
