-- XXH32's steps undo, and are undone by, their way back.
use Rattle.hash_theorems.proofs.BlockCommon.{◌≡◌, ℕ, zero, suc, ◌^◌, ◌<◌, ◌≤◌, List, slice_index, refl, arith, lit<, lit≤, mod_below, pow_pos, le, rotl, add, sub, UndoesWords, ◌▷◌, turned_round, folded, added, added_onto, rotated, multiplied, shifted, shifted_less, IsText, IsByte, blocks, blocks_seen, q1, q2, q3, q4, q5, tail, blocks_before, words_of, converged, un_q1, un_q2, un_q3, un_q4, unturned, lane_back, four_between, word_between, turn_of, lane_for, four_out, byte_out, lane_out, rest_out, last_unmix, product, round, start, after_block, four_in, byte_in, rest_in, last_mix, common_steps, nat_tests, rules}
use Rattle.hash_words.proofs.WordLemmas.{rotl-lt}
use Rattle.hash_theorems.proofs.BackLemmas.{taken_back, tail-left}

product-lt : (x p : ℕ) → product x p < 2 ^ 32
product-lt x p = mod_below _ (2 ^ 32) (pow_pos 32)

-- ---- a lane, four bytes, one byte, by the word that is taken in, and the word between two

pub of_lane : (word : ℕ) → UndoesWords 32 (λ lane. round lane word) (λ lane. lane_out lane word)
unfolding round lane_out unturned
of_lane word = added 32 (product word q2) (product-lt word q2) ▷ rotated 32 13 (lit≤ tt) ▷ multiplied 32 q1 un_q1 refl

pub round-lt : (lane word : ℕ) → round lane word < 2 ^ 32
unfolding round
round-lt lane word = product-lt _ q1

pub of_word : (lane : ℕ) → lane < 2 ^ 32 → UndoesWords 32 (round lane) (word_between lane)
unfolding round word_between unturned
of_word lane lane_in = multiplied 32 q2 un_q2 refl ▷ added_onto 32 lane lane_in ▷ rotated 32 13 (lit≤ tt) ▷ multiplied 32 q1 un_q1 refl

of_four : (word : ℕ) → UndoesWords 32 (λ h. four_in h word) (λ h. four_out h word)
unfolding four_in four_out unturned
of_four word = added 32 (product word q3) (product-lt word q3) ▷ rotated 32 17 (lit≤ tt) ▷ multiplied 32 q4 un_q4 refl

pub of_four_word : (h : ℕ) → h < 2 ^ 32 → UndoesWords 32 (four_in h) (four_between h)
unfolding four_in four_between unturned
of_four_word h h_in = multiplied 32 q3 un_q3 refl ▷ added_onto 32 h h_in ▷ rotated 32 17 (lit≤ tt) ▷ multiplied 32 q4 un_q4 refl

of_byte : (byte : ℕ) → UndoesWords 32 (λ h. byte_in h byte) (λ h. byte_out h byte)
unfolding byte_in byte_out unturned
of_byte byte = added 32 (product byte q5) (product-lt byte q5) ▷ rotated 32 11 (lit≤ tt) ▷ multiplied 32 q1 un_q1 refl

-- ---- what is left, and the last mix

pub of_fours : (text : List ℕ) → IsText text
    → UndoesWords 32 (λ h. blocks 4 (λ h block. four_in h (le block)) h text) (λ h. blocks_before 4 (λ h block. four_out h (le block)) h text)
of_fours text is = taken_back 4 (lit< tt) (λ b _. of_four (le b)) text is

of_rest : (left : List ℕ) → IsText left → UndoesWords 32 (λ h. rest_in h left) (λ h. rest_out h left)
unfolding rest_in
of_rest left is = of_fours left is ▷ folded {is_item = IsByte} (λ byte _. of_byte byte) (tail 4 left) (tail-left 4 (lit< tt) left is).0

of_mix : UndoesWords 32 last_mix last_unmix
unfolding last_mix last_unmix
of_mix =
    shifted_less 32 15 (lit≤ tt) ▷ multiplied 32 q2 un_q2 refl ▷ shifted_less 32 13 (lit≤ tt) ▷ multiplied 32 q3 un_q3 refl
    ▷ shifted 32 16 (lit≤ tt)

pub of_ended : (left : List ℕ) → IsText left → UndoesWords 32 (λ h. last_mix (rest_in h left)) (λ h. rest_out (last_unmix h) left)
of_ended left is = of_rest left is ▷ of_mix

-- ---- lanes

pub lane-block : (s b : List ℕ) (j : ℕ) → j < 4 → slice_index (after_block s b) j ≡ round (slice_index s j) (slice_index (words_of b) j)
unfolding after_block
lane-block s b zero below = refl
lane-block s b (suc zero) below = refl
lane-block s b (suc (suc zero)) below = refl
lane-block s b (suc (suc (suc zero))) below = refl
lane-block s b (suc (suc (suc (suc j)))) below = absurd (omega arith)

-- one lane goes its own way
pub lane-blocks : (s text : List ℕ) (j : ℕ) → j < 4 → slice_index (blocks 16 after_block s text) j
    ≡ blocks 16 (λ lane block. round lane (slice_index (words_of block) j)) (slice_index s j) text
lane-blocks s text j below = blocks_seen 16 (lit< tt) after_block _ (λ s. slice_index s j) (λ s b. lane-block s b j below) s text

pub of_lane_blocks : (place : ℕ) (text : List ℕ) → IsText text
    → UndoesWords 32 (λ lane. blocks 16 (λ lane block. round lane (slice_index (words_of block) place)) lane text)
    (λ lane. lane_back place lane text)
of_lane_blocks place text is = taken_back 16 (lit< tt) (λ b _. of_lane (slice_index (words_of b) place)) text is

pub start-in : (seed j : ℕ) → seed < 2 ^ 32 → j < 4 → slice_index (start seed) j < 2 ^ 32
unfolding start
start-in seed zero seed_in below = mod_below _ (2 ^ 32) (pow_pos 32)
start-in seed (suc zero) seed_in below = mod_below _ (2 ^ 32) (pow_pos 32)
start-in seed (suc (suc zero)) seed_in below = seed_in
start-in seed (suc (suc (suc zero))) seed_in below = mod_below _ (2 ^ 32) (pow_pos 32)
start-in seed (suc (suc (suc (suc j)))) seed_in below = absurd (omega arith)

-- ---- one lane of the sum, where the others stay

turn-within : (place : ℕ) → turn_of place ≤ 32
turn-within zero = lit≤ tt
turn-within (suc zero) = lit≤ tt
turn-within (suc (suc zero)) = lit≤ tt
turn-within (suc (suc (suc place))) = lit≤ tt

pub of_sum : (place sum lane : ℕ) → sum < 2 ^ 32 → lane < 2 ^ 32
    → UndoesWords 32 (λ x. add 32 (sub 32 (rotl 32 x (turn_of place)) (rotl 32 lane (turn_of place))) sum)
    (λ wanted. lane_for place wanted sum lane)
unfolding lane_for
of_sum place sum lane sum_in lane_in =
    rotated 32 (turn_of place) (turn-within place)
    ▷ turned_round (added 32 (rotl 32 lane (turn_of place)) (rotl-lt 32 lane (turn_of place) (turn-within place) lane_in))
    ▷ added 32 sum sum_in

pub converged-lt : (s : List ℕ) → converged s < 2 ^ 32
unfolding converged
converged-lt s = mod_below _ (2 ^ 32) (pow_pos 32)

module _ (a b c d x : ℕ) (a_in : a < 2 ^ 32) where
  first : add 32 (add 32 (add 32 x b) c) d ≡ add 32 (sub 32 x a) (add 32 (add 32 (add 32 a b) c) d)
  first = omega arith

  second : add 32 (add 32 (add 32 b x) c) d ≡ add 32 (sub 32 x a) (add 32 (add 32 (add 32 b a) c) d)
  second = omega arith

  third : add 32 (add 32 (add 32 b c) x) d ≡ add 32 (sub 32 x a) (add 32 (add 32 (add 32 b c) a) d)
  third = omega arith

  fourth : add 32 (add 32 (add 32 b c) d) x ≡ add 32 (sub 32 x a) (add 32 (add 32 (add 32 b c) d) a)
  fourth = omega arith

module _ (s t : List ℕ) where
  pub sum-by : (place : ℕ) → place < 4 → slice_index s place < 2 ^ 32 → ((j : ℕ) → j < 4 → (j ≡ place → ⊥) → slice_index t j ≡ slice_index s j)
      → converged t ≡ add 32 (sub 32 (rotl 32 (slice_index t place) (turn_of place)) (rotl 32 (slice_index s place) (turn_of place))) (converged s)
  unfolding converged
  sum-by zero below s_in others = search (rules, lit<, first, rotl-lt, lit≤)
  sum-by (suc zero) below s_in others = search (rules, lit<, second, rotl-lt, lit≤)
  sum-by (suc (suc zero)) below s_in others = search (rules, lit<, third, rotl-lt, lit≤)
  sum-by (suc (suc (suc zero))) below s_in others = grind (arith, nat_tests, common_steps, lit<, fourth, rotl-lt, lit≤)
  sum-by (suc (suc (suc (suc place)))) below s_in others = absurd (omega arith)
