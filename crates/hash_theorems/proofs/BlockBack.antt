-- The blocks of XXH32 and XXH64 there and back: any four lanes are led to from four lanes by a block, and from no others.
use Rattle.hash_theorems.proofs.BlockCommon.{◌≡◌, ℕ, ◌^◌, ◌<◌, List, [], ◌∷◌, slice_index, le_words, common_steps, nat_tests, arith}
use Rattle.std.proofs.lemmas.List.FromFn.{fill_by_all}
use Rattle.hash_rounds.proofs.RoundLemmas.{AreNWords}
use Rattle.hash_blocks.specs.Xxh32 as at_32
use Rattle.hash_blocks.specs.Xxh64 as at_64
use Rattle.hash_theorems.specs.Xxh32Back as back_32
use Rattle.hash_theorems.specs.Xxh64Back as back_64
use Rattle.hash_theorems.proofs.Steps32 as steps_32
use Rattle.hash_theorems.proofs.Steps64 as steps_64

-- four lanes, each of which is where it was after two steps
four-again : (w : ℕ) (f : ℕ → ℕ → ℕ) → ((lane word : ℕ) → lane < 2 ^ w → f lane word ≡ lane) → (s words : List ℕ) → AreNWords w 4 s
    → f (slice_index s 0) (slice_index words 0) ∷ f (slice_index s 1) (slice_index words 1) ∷ f (slice_index s 2) (slice_index words 2)
    ∷ f (slice_index s 3) (slice_index words 3) ∷ [] ≡ s
four-again w f again s words s_in = grind (arith, nat_tests, common_steps, fill_by_all)

module _ (lanes block : List ℕ) where
  pub there_32 : AreNWords 32 4 lanes → at_32.after_block (back_32.before_block lanes block) block ≡ lanes
  unfolding at_32.after_block back_32.before_block
  there_32 = four-again 32 _ (λ lane word. (steps_32.of_lane word).there lane) lanes (at_32.words_of block)

  pub back_again_32 : AreNWords 32 4 lanes → back_32.before_block (at_32.after_block lanes block) block ≡ lanes
  unfolding at_32.after_block back_32.before_block
  back_again_32 = four-again 32 _ (λ lane word. (steps_32.of_lane word).back lane) lanes (at_32.words_of block)

  pub there_64 : AreNWords 64 4 lanes → at_64.after_block (back_64.before_block lanes block) block ≡ lanes
  unfolding at_64.after_block back_64.before_block
  there_64 = four-again 64 _ (λ lane word. (steps_64.of_lane word).there lane) lanes (le_words block)

  pub back_again_64 : AreNWords 64 4 lanes → back_64.before_block (at_64.after_block lanes block) block ≡ lanes
  unfolding at_64.after_block back_64.before_block
  back_again_64 = four-again 64 _ (λ lane word. (steps_64.of_lane word).back lane) lanes (le_words block)
