-- MurmurHash3_x64_128 and its way back undo one another.
use Rattle.std.proofs.Common.{◌≡◌, ℕ, ◌-◌, ◌%◌, ◌^◌, ◌<◌, ◌≤◌, List, ◌++◌, length, take, drop, slice_index, bit_xor, refl, sym, ap, ◌∙◌, arith, lit<, lit≤, length-take, length-drop}
use Rattle.std.proofs.Math.Path.{ap₂}
use Rattle.std.proofs.lemmas.Nat.{mod_below, pow_pos}
use Rattle.std.proofs.lemmas.List.{take-append-drop}
use Rattle.std.proofs.lemmas.List.Elements.{All-take, All-drop}
use Rattle.hash_words.specs.Words.{le}
use Rattle.hash_words.specs.Undoes.{Undoes, UndoesWords}
use Rattle.hash_words.proofs.ByteLemmas.{le-few}
use Rattle.hash_words.proofs.PieceLemmas.{le-same}
use Rattle.hash_words.proofs.UndoLemmas.{◌▷◌, told, both, on_first, on_second, xored, xored_onto, added, rotated, multiplied, multiplied_added, shifted}
use Rattle.hash_words.proofs.XorLemmas.{xor_cancel_left}
use Rattle.hash_laws.specs.TextLaws.{IsByte}
use Rattle.hash_theorems.specs.BlockFacts.{BlockFacts, IsBlock, IsLeft}
use Rattle.hash_words.proofs.ByteBlocks.{of_eight_bytes, of_halves}
use Rattle.hash_blocks.specs.Murmur3x128.{scrambled, scramble1, scramble2, turned, after_block, last_mix, crossed, both_mixed, ended}
use Rattle.hash_theorems.specs.Murmur3x128Back.{unscramble1, unscramble2, turned_back, before_block, block_between, last_unmix, uncrossed, both_unmixed, before_end, AreTwo, IsSeed}

-- ---- words

scrambled-lt : (turn first second x : ℕ) → scrambled turn first second x < 2 ^ 64
unfolding scrambled
scrambled-lt turn first second x = mod_below _ (2 ^ 64) (pow_pos 64)

of_scramble1 : UndoesWords 64 scramble1 unscramble1
unfolding scrambled
of_scramble1 =
    multiplied 64 0x87c37b91114253d5 0xa98409e882ce4d7d refl ▷ rotated 64 31 (lit≤ tt) ▷ multiplied 64 0x4cf5ad432745937f 0xa81e14edd9de2c7f refl

of_scramble2 : UndoesWords 64 scramble2 unscramble2
unfolding scrambled
of_scramble2 =
    multiplied 64 0x4cf5ad432745937f 0xa81e14edd9de2c7f refl ▷ rotated 64 33 (lit≤ tt) ▷ multiplied 64 0x87c37b91114253d5 0xa98409e882ce4d7d refl

of_turn : (turn constant other : ℕ) → turn ≤ 64 → constant < 2 ^ 64 → other < 2 ^ 64
    → UndoesWords 64 (λ h. turned turn constant h other) (λ h. turned_back (64 - turn) constant h other)
unfolding turned turned_back
of_turn turn constant other within constant_in other_in =
    rotated 64 turn within ▷ added 64 other other_in ▷ multiplied_added 64 5 0xcccccccccccccccd constant refl constant_in

of_mix : UndoesWords 64 last_mix last_unmix
unfolding last_mix last_unmix
of_mix =
    shifted 64 33 (lit≤ tt) ▷ multiplied 64 0xff51afd7ed558ccd 0x4f74430c22a54005 refl ▷ shifted 64 33 (lit≤ tt)
    ▷ multiplied 64 0xc4ceb9fe1a85ec53 0x9cb4b2f8129337db refl ▷ shifted 64 33 (lit≤ tt)

-- ---- blocks

of_block : (b : List ℕ) → Undoes AreTwo AreTwo (λ s. after_block s b) (λ s. before_block s b)
of_block b =
    on_first (λ h2 h2_in. xored 64 (scramble1 (le (take 8 b))) (scrambled-lt _ _ _ _) ▷ of_turn 27 0x52dce729 h2 (lit≤ tt) (lit< tt) h2_in)
    ▷ on_second (λ h1 h1_in. xored 64 (scramble2 (le (drop 8 b))) (scrambled-lt _ _ _ _) ▷ of_turn 31 0x38495ab5 h1 (lit≤ tt) (lit< tt) h1_in)

of_between : (s : ℕ × ℕ) → AreTwo s → Undoes (IsBlock 16) AreTwo (after_block s) (block_between s)
of_between s s_in =
    of_halves 8 16 refl ▷ both of_eight_bytes of_eight_bytes
    ▷ on_first (λ w _. of_scramble1 ▷ xored_onto 64 s.0 s_in.0 ▷ of_turn 27 0x52dce729 s.1 (lit≤ tt) (lit< tt) s_in.1)
    ▷ on_second (λ h1 h1_in. of_scramble2 ▷ xored_onto 64 s.1 s_in.1 ▷ of_turn 31 0x38495ab5 h1 (lit≤ tt) (lit< tt) h1_in)

-- ---- the end

of_crossed : Undoes AreTwo AreTwo crossed uncrossed
of_crossed = on_first (λ h2 h2_in. added 64 h2 h2_in) ▷ on_second (λ h1 h1_in. added 64 h1 h1_in)

-- from where the length goes in
of_length : (total : ℕ) → Undoes AreTwo AreTwo (λ h. crossed (both_mixed (crossed (bit_xor h.0 (total % 2 ^ 64), bit_xor h.1 (total % 2 ^ 64)))))
    (λ h. let g = uncrossed (both_unmixed (uncrossed h)) in (bit_xor g.0 (total % 2 ^ 64), bit_xor g.1 (total % 2 ^ 64)))
of_length total =
    let of_total = xored 64 (total % 2 ^ 64) (mod_below total (2 ^ 64) (pow_pos 64)) in
    both of_total of_total ▷ of_crossed ▷ both of_mix of_mix ▷ of_crossed

of_words : (left : List ℕ) → Undoes AreTwo AreTwo (λ h. (bit_xor h.0 (scramble1 (le (take 8 left))), bit_xor h.1 (scramble2 (le (drop 8 left)))))
    (λ h. (bit_xor h.0 (scramble1 (le (take 8 left))), bit_xor h.1 (scramble2 (le (drop 8 left)))))
of_words left = both (xored 64 _ (scrambled-lt _ _ _ (le (take 8 left)))) (xored 64 _ (scrambled-lt _ _ _ (le (drop 8 left))))

left_same : (s : ℕ × ℕ) (q r : List ℕ) (total : ℕ) → AreTwo s → IsLeft 16 q → IsLeft 16 r → length q ≡ length r
    → ended s q total ≡ ended s r total → q ≡ r
left_same s q r total s_in q_is r_is same_length same =
    let before = told (of_length total) _ _ ((of_words q).there_in s s_in) ((of_words r).there_in s s_in) same in
    let first_in = λ (t : List ℕ) (is : IsLeft 16 t). le-few 8 (take 8 t) (All-take IsByte 8 t is.0) (omega (arith, length-take 8 t)) in
    let second_in = λ (t : List ℕ) (is : IsLeft 16 t). le-few 8 (drop 8 t) (All-drop IsByte 8 t is.0) (omega (arith, is.1, length-drop 8 t)) in
    let first = told of_scramble1 (le (take 8 q)) (le (take 8 r)) (first_in q q_is) (first_in r r_is)
    (xor_cancel_left s.0 _ _ (ap (λ (h : ℕ × ℕ). h.0) before)) in
    let second = told of_scramble2 (le (drop 8 q)) (le (drop 8 r)) (second_in q q_is) (second_in r r_is)
    (xor_cancel_left s.1 _ _ (ap (λ (h : ℕ × ℕ). h.1) before)) in
    sym (take-append-drop 8 q)
    ∙ ap₂ (λ (a b : List ℕ). a ++ b)
    (le-same _ _ (All-take IsByte 8 q q_is.0) (All-take IsByte 8 r r_is.0) (omega (arith, same_length, length-take 8 q, length-take 8 r)) first)
    (le-same _ _ (All-drop IsByte 8 q q_is.0) (All-drop IsByte 8 r r_is.0) (omega (arith, same_length, length-drop 8 q, length-drop 8 r)) second)
    ∙ take-append-drop 8 r

pub murmur3_128_facts : BlockFacts 16 IsSeed AreTwo AreTwo (λ from. (slice_index from 0, slice_index from 0)) after_block ended before_block
    block_between before_end
murmur3_128_facts = record {
  start_in = λ from seed. (seed, seed);
  of_block = λ b b_is. of_block b;
  of_between = of_between;
  of_end = λ left total left_is. of_words left ▷ of_length total;
  left_same = left_same;
}
