-- Each hash of the table is below 2 to the power of its bits.
use Rattle.hashsum_core.proofs.Common.{ℕ, ◌*◌, ◌^◌, ◌<◌, List, [], ◌∷◌, length, slice_index, fold, map, take, drop, All, arith, lit<, All-drop, All-head, All-tail, All-take, mod_below, pow_pos, xor_lt, AreTwoWords, lookup3_answer, lookup3_from, lookup3-AreTwoWords, IsText, rules, nat_tests, common_steps}
use Rattle.hash_words.specs.Words.{le}
use Rattle.hash_words.specs.Pieces.{pieces}
use Rattle.hash_words.proofs.ByteLemmas.{le-few}
use Rattle.hash_words.proofs.XorshiftLemmas.{xorshift-lt}
use Rattle.hash_laws.specs.TextLaws.{IsByte}
use Rattle.hash_blocks.specs.Blocks.{blocks, tail}
use Rattle.hash_theorems.specs.BlockFacts.{IsBlock}
use Rattle.hash_theorems.proofs.BackLemmas.{pieces-blocks}
use Rattle.hash_rounds.proofs.RoundLemmas.{AreFourWords}
use Rattle.hash_blocks.specs.Murmur3 as murmur3
use Rattle.hash_blocks.specs.SipHash as sip
use Rattle.hash_blocks.proofs.BackLemmas.{rounds-in, xored-in}
use Rattle.hash_blocks.specs.Xxh32 as xxh32
use Rattle.hash_blocks.specs.Xxh64 as xxh64

-- ---- mixes

pub xxh32_mix : (h : ℕ) → xxh32.last_mix h < 2 ^ 32
unfolding xxh32.last_mix
xxh32_mix h = xorshift-lt 32 _ 16 (mod_below _ (2 ^ 32) (lit< tt))

pub xxh64_mix : (h : ℕ) → xxh64.last_mix h < 2 ^ 64
unfolding xxh64.last_mix
xxh64_mix h = xorshift-lt 64 _ 32 (mod_below _ (2 ^ 64) (lit< tt))

pub murmur3_mix : (h : ℕ) → murmur3.last_mix h < 2 ^ 32
unfolding murmur3.last_mix
murmur3_mix h = xorshift-lt 32 _ 16 (mod_below _ (2 ^ 32) (lit< tt))

-- ---- lookup3

pub lookup3_below : (s : ℕ × ℕ) → AreTwoWords s → lookup3_answer s < 2 ^ 64
lookup3_below s are = omega (arith, are.0, are.1)

pub lookup3_pieces : (n : ℕ) (text : List ℕ) (places : List ℕ) (s : ℕ × ℕ) → AreTwoWords s → IsText text
    → AreTwoWords (fold lookup3_from s (map (λ i. take n (drop (i * n) text)) places))
lookup3_pieces n text [] s are is = are
lookup3_pieces n text (i ∷ places) s are is =
    let piece = take n (drop (i * n) text) in
    lookup3_pieces n text places (lookup3_from s piece)
    (lookup3-AreTwoWords s piece are (All-take IsByte n (drop (i * n) text) (All-drop IsByte (i * n) text is))) is

-- ---- SipHash

four_in : (a b c d : ℕ) → a < 2 ^ 64 → b < 2 ^ 64 → c < 2 ^ 64 → d < 2 ^ 64 → AreFourWords (a ∷ b ∷ c ∷ d ∷ [])
four_in a b c d a_in b_in c_in d_in = grind (arith, nat_tests, common_steps, pow_pos)

word_in : (c : ℕ) (v : List ℕ) (word : ℕ) → AreFourWords v → word < 2 ^ 64 → AreFourWords (sip.after_word c v word)
unfolding sip.after_word
word_in c v word are below = grind (arith, nat_tests, common_steps, pow_pos, xored-in, rounds-in)

blocks_in : (c : ℕ) (v : List ℕ) (pieces_of : List (List ℕ)) → AreFourWords v → All (IsBlock 8) pieces_of
    → AreFourWords (fold (sip.after_block c) v pieces_of)
blocks_in c v [] are each = are
blocks_in c v (block ∷ more) are each =
    let first = All-head (IsBlock 8) block more each in
    blocks_in c (sip.after_block c v block) more
    (word_in c v (le block) are (le-few 8 block first.0 (omega (arith, first.1)))) (All-tail (IsBlock 8) block more each)

folded_below : (v : List ℕ) → AreFourWords v → sip.folded v < 2 ^ 64
unfolding sip.folded
folded_below v are =
    xor_lt 64 _ _ (xor_lt 64 (slice_index v 0) (slice_index v 1) (are.1 0) (are.1 1))
    (xor_lt 64 (slice_index v 2) (slice_index v 3) (are.1 2) (are.1 3))

last_below : (left : List ℕ) (total : ℕ) → IsText left → length left < 8 → sip.last_word left total < 2 ^ 64
unfolding sip.last_word
last_below left total is few = grind (arith, nat_tests, common_steps, le-few, mod_below)

start_in : (k0 k1 : ℕ) → k0 < 2 ^ 64 → k1 < 2 ^ 64 → AreFourWords (sip.start k0 k1)
unfolding sip.start
start_in k0 k1 first second = search (rules, four_in, xor_lt)

pub siphash_below : (c d k0 k1 : ℕ) (text : List ℕ) → k0 < 2 ^ 64 → k1 < 2 ^ 64 → IsText text → sip.siphash c d k0 k1 text < 2 ^ 64
unfolding blocks tail
siphash_below c d k0 k1 text first second is =
    let v = blocks 8 (sip.after_block c) (sip.start k0 k1) text in
    let v_in : AreFourWords v =
    blocks_in c (sip.start k0 k1) (pieces 8 text) (start_in k0 k1 first second) (pieces-blocks 8 (lit< tt) text is) in
    grind (arith, nat_tests, common_steps, All-drop, word_in, last_below, xored-in, pow_pos, folded_below, rounds-in)
