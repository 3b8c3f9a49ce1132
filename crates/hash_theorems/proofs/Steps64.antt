-- XXH64's steps undo, and are undone by, their way back.
use Rattle.hash_theorems.proofs.BlockCommon.{◌≡◌, ℕ, ◌-◌, ◌*◌, ◌%◌, ◌^◌, ◌<◌, ◌≤◌, List, refl, sym, ap, ◌∙◌, add-zero, zero-add, lit<, lit≤, mod-mod, mod_below, pow_pos, le, rotl, add, Undoes, IsWord, UndoesWords, ◌▷◌, likewise, folded, xored, xored_onto, added, rotated, multiplied, shifted, shifted_less, IsText, IsByte, of_eight_bytes, p1, p2, p3, p4, p5, eights_in, tail, blocks_before, IsBlock, eight_in, un_p1, un_p2, un_p3, unspun, unround, eight_out, eight_between}
use Rattle.hash_theorems.proofs.BackLemmas.{taken_back, tail-left}
use Rattle.hash_blocks.specs.Xxh64.{product, round, four_in, byte_in, rest_in, last_mix}
use Rattle.hash_theorems.specs.Xxh64Back.{lane_out, four_out, byte_out, rest_out, last_unmix}

product-lt : (x p : ℕ) → product x p < 2 ^ 64
product-lt x p = mod_below _ (2 ^ 64) (pow_pos 64)

pub of_lane : (word : ℕ) → UndoesWords 64 (λ lane. round lane word) (λ lane. lane_out lane word)
unfolding round lane_out
of_lane word = added 64 (product word p2) (product-lt word p2) ▷ rotated 64 31 (lit≤ tt) ▷ multiplied 64 p1 un_p1 refl

-- the word of which a lane of 0 makes another
of_round : UndoesWords 64 (round 0) unround
unfolding round unround
of_round =
    likewise (λ x _. ap (λ n. product (rotl 64 n 31) p1) (ap (λ n. n % 2 ^ 64) (zero-add (product x p2)) ∙ mod-mod (x * p2) (2 ^ 64))) (λ x _. refl)
    (multiplied 64 p2 un_p2 refl ▷ rotated 64 31 (lit≤ tt) ▷ multiplied 64 p1 un_p1 refl)

-- ---- eight bytes, four bytes, one byte

-- a rotation, a product and a sum
of_spin : (turn prime inverse sum : ℕ) → turn ≤ 64 → prime * inverse % 2 ^ 64 ≡ 1 → sum < 2 ^ 64
    → UndoesWords 64 (λ h. add 64 (product (rotl 64 h turn) prime) sum) (unspun (64 - turn) inverse sum)
unfolding unspun
of_spin turn prime inverse sum within unit sum_in = rotated 64 turn within ▷ multiplied 64 prime inverse unit ▷ added 64 sum sum_in

of_eight_spin : UndoesWords 64 (λ h. add 64 (product (rotl 64 h 27) p1) p4) (unspun 37 un_p1 p4)
of_eight_spin = of_spin 27 p1 un_p1 p4 (lit≤ tt) refl (lit< tt)

of_eight : (word : ℕ) → UndoesWords 64 (λ h. eight_in h word) (λ h. eight_out h word)
unfolding eight_in round
of_eight word = xored 64 (round 0 word) (product-lt _ p1) ▷ of_eight_spin

-- the eight bytes between two words
pub of_eight_between : (h : ℕ) → h < 2 ^ 64 → Undoes (IsBlock 8) (IsWord 64) (λ b. eight_in h (le b)) (eight_between h)
unfolding eight_in
of_eight_between h h_in = of_eight_bytes ▷ of_round ▷ xored_onto 64 h h_in ▷ of_eight_spin

of_four : (word : ℕ) → UndoesWords 64 (λ h. four_in h word) (λ h. four_out h word)
unfolding four_in
of_four word = xored 64 (product word p1) (product-lt word p1) ▷ of_spin 23 p2 un_p2 p3 (lit≤ tt) refl (lit< tt)

of_byte : (byte : ℕ) → UndoesWords 64 (λ h. byte_in h byte) (λ h. byte_out h byte)
unfolding byte_in
of_byte byte =
    xored 64 (product byte p5) (product-lt byte p5)
    ▷ likewise (λ x _. sym (ap (λ n. n % 2 ^ 64) (add-zero (product (rotl 64 x 11) p1)) ∙ mod-mod _ (2 ^ 64))) (λ x _. refl)
    (of_spin 11 p1 un_p1 0 (lit≤ tt) refl (lit< tt))

-- ---- what is left, and the last mix

pub of_eights : (text : List ℕ) → IsText text → UndoesWords 64 (λ h. eights_in h text) (λ h. blocks_before 8 (λ h block. eight_out h (le block)) h text)
of_eights text is = taken_back 8 (lit< tt) (λ b _. of_eight (le b)) text is

of_rest : (left : List ℕ) → IsText left → UndoesWords 64 (λ h. rest_in h left) (λ h. rest_out h left)
unfolding rest_in
of_rest left is =
    let few = (tail-left 8 (lit< tt) left is).0 in
    of_eights left is ▷ taken_back 4 (lit< tt) (λ b _. of_four (le b)) (tail 8 left) few
    ▷ folded {is_item = IsByte} (λ byte _. of_byte byte) (tail 4 (tail 8 left)) (tail-left 4 (lit< tt) (tail 8 left) few).0

of_mix : UndoesWords 64 last_mix last_unmix
unfolding last_mix last_unmix
of_mix =
    shifted 64 33 (lit≤ tt) ▷ multiplied 64 p2 un_p2 refl ▷ shifted_less 64 29 (lit≤ tt) ▷ multiplied 64 p3 un_p3 refl
    ▷ shifted 64 32 (lit≤ tt)

pub of_ended : (left : List ℕ) → IsText left → UndoesWords 64 (λ h. last_mix (rest_in h left)) (λ h. rest_out (last_unmix h) left)
of_ended left is = of_rest left is ▷ of_mix
