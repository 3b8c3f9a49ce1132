-- MurmurHash3_x86_32 and its way back undo one another.
use Rattle.std.proofs.Common.{◌≡◌, ℕ, ◌%◌, ◌^◌, ◌<◌, List, length, slice_index, bit_xor, ◌+◌, ◌*◌, refl, arith, lit<, lit≤}
use Rattle.std.proofs.lemmas.Nat.{mod_below, pow_pos}
use Rattle.hash_words.specs.Words.{le, rotl}
use Rattle.hash_words.specs.Undoes.{Undoes, UndoesWords}
use Rattle.hash_words.proofs.ByteLemmas.{le-few}
use Rattle.hash_words.proofs.PieceLemmas.{le-same}
use Rattle.hash_words.proofs.UndoLemmas.{◌▷◌, told, xored, xored_onto, rotated, multiplied, multiplied_added, shifted, shifted_less}
use Rattle.hash_words.proofs.XorLemmas.{xor_cancel_left}
use Rattle.hash_theorems.specs.BlockFacts.{BlockFacts, IsBlock, IsLeft}
use Rattle.hash_words.proofs.ByteBlocks.{of_four_bytes}
use Rattle.hash_blocks.specs.Murmur3.{scramble, after_word, after_block, last_mix, ended}
use Rattle.hash_theorems.specs.Murmur3Back.{unscramble, turned_back, before_block, block_between, last_unmix, before_end, IsWord, IsSeed}

scrambled : UndoesWords 32 scramble unscramble
unfolding scramble unscramble
scrambled = multiplied 32 0xcc9e2d51 0xdee13bb1 refl ▷ rotated 32 15 (lit≤ tt) ▷ multiplied 32 0x1b873593 0x56ed309b refl

scramble-lt : (x : ℕ) → scramble x < 2 ^ 32
unfolding scramble
scramble-lt x = mod_below _ (2 ^ 32) (pow_pos 32)

turned : ℕ → ℕ
turned y = (rotl 32 y 13 * 5 + 0xe6546b64) % 2 ^ 32

turns : UndoesWords 32 turned turned_back
unfolding turned turned_back
turns = rotated 32 13 (lit≤ tt) ▷ multiplied_added 32 5 0xcccccccd 0xe6546b64 refl (lit< tt)

mixes : UndoesWords 32 last_mix last_unmix
unfolding last_mix last_unmix
mixes =
    shifted 32 16 (lit≤ tt) ▷ multiplied 32 0x85ebca6b 0xa5cb9243 refl ▷ shifted_less 32 13 (lit≤ tt)
    ▷ multiplied 32 0xc2b2ae35 0x7ed1b41d refl ▷ shifted 32 16 (lit≤ tt)

-- ---- blocks

of_block : (b : List ℕ) → UndoesWords 32 (λ s. after_block s b) (λ s. before_block s b)
unfolding after_word turned
of_block b = xored 32 (scramble (le b)) (scramble-lt (le b)) ▷ turns

of_between : (s : ℕ) → IsWord s → Undoes (IsBlock 4) IsWord (after_block s) (block_between s)
unfolding after_word turned
of_between s s_in = of_four_bytes ▷ scrambled ▷ xored_onto 32 s s_in ▷ turns

-- ---- the end

of_length : (total : ℕ) → UndoesWords 32 (λ s. last_mix (bit_xor s (total % 2 ^ 32))) (λ h. bit_xor (last_unmix h) (total % 2 ^ 32))
of_length total = xored 32 (total % 2 ^ 32) (mod_below total (2 ^ 32) (pow_pos 32)) ▷ mixes

of_end : (left : List ℕ) (total : ℕ) → UndoesWords 32 (λ s. ended s left total) (λ h. before_end h left total)
of_end left total = xored 32 (scramble (le left)) (scramble-lt (le left)) ▷ of_length total

left_same : (s : ℕ) (q r : List ℕ) (total : ℕ) → IsWord s → IsLeft 4 q → IsLeft 4 r → length q ≡ length r → ended s q total ≡ ended s r total
    → q ≡ r
left_same s q r total s_in q_is r_is len same =
    let value_in = λ (left : List ℕ) (is : IsLeft 4 left). le-few 4 left is.0 (omega (arith, is.1)) in
    let folded_in = λ (left : List ℕ). (xored 32 (scramble (le left)) (scramble-lt (le left))).there_in s s_in in
    le-same q r q_is.0 r_is.0 len (told scrambled (le q) (le r) (value_in q q_is) (value_in r r_is)
    (xor_cancel_left s (scramble (le q)) (scramble (le r)) (told (of_length total) _ _ (folded_in q) (folded_in r) same)))

pub murmur3_32_facts : BlockFacts 4 IsSeed IsWord IsWord (λ from. slice_index from 0) after_block ended before_block block_between before_end
murmur3_32_facts = record {
  start_in = λ from seed. seed;
  of_block = λ b b_is. of_block b;
  of_between = of_between;
  of_end = λ left total left_is. of_end left total;
  left_same = left_same;
}
