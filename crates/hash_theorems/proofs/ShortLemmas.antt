-- Texts of one to eight bytes are known by the number that is hashed.
use Rattle.hash_theorems.proofs.Xxh3Common.{◌≡◌, ℕ, ◌+◌, ◌-◌, ◌*◌, ◌/◌, ◌%◌, ◌^◌, ◌<◌, ◌≤◌, List, ◌++◌, length, slice_index, get_or, take, drop, bit_xor, refl, sym, ◌∙◌, ap, lit<, arith, inl, inr, length-drop, w32, get_or-take, get_or-drop, length-take, take_all, to_le_bytes, cases_lt, nat_tests, All-take, All-drop, mod_below, le, Undoes, IsWord, UndoesWords, of_four_bytes, of_halves, IsPiece, le-same, ◌▷◌, likewise, told, both, xored, AreWords-at, IsText, IsByte, half_at, word_at, of_few, of_eight, ext_get_or, length_mix, few_number, few_flip, eight_number, eight_flip, xxh3_64_of, common_steps}
use Rattle.hash_words.proofs.ByteLemmas.{le-few}
use Rattle.hash_theorems.proofs.MixLemmas.{of_avalanche_64, un_length_mix, of_length_mix}

-- ---- parts of texts

pub part-at : (w at i : ℕ) (x y : List ℕ) → take w (drop at x) ≡ take w (drop at y) → i < w → get_or x (at + i) 0 ≡ get_or y (at + i) 0
part-at w at i x y same i_in = grind (arith, nat_tests, common_steps, get_or-take, get_or-drop)

pub piece-same : (w at : ℕ) (x y : List ℕ) → IsText x → IsText y → length x ≡ length y → le (take w (drop at x)) ≡ le (take w (drop at y))
    → take w (drop at x) ≡ take w (drop at y)
piece-same w at x y xs ys len same =
    grind (arith, nat_tests, common_steps, le-same, All-take, All-drop, length-take, length-drop)

pub piece-lt : (w at : ℕ) (x : List ℕ) → IsText x → le (take w (drop at x)) < 256 ^ w
piece-lt w at x xs = le-few w (take w (drop at x)) (All-take IsByte w (drop at x) (All-drop IsByte at x xs)) (omega (arith, length-take w (drop at x)))

pub word_at-lt : (at : ℕ) (text : List ℕ) → IsText text → word_at at text < 2 ^ 64
word_at-lt at text bytes = piece-lt 8 at text bytes

-- a text of w to twice as many bytes is known by its first w and its last
pub by_ends : (w : ℕ) (x y : List ℕ) → IsText x → IsText y → length x ≡ length y → w ≤ length x → length x ≤ 2 * w
    → le (take w (drop 0 x)) ≡ le (take w (drop 0 y)) → le (take w (drop (length x - w) x)) ≡ le (take w (drop (length x - w) y)) → x ≡ y
by_ends w x y xs ys len some few first last =
    ext_get_or 0 x y len (λ i i_in. elim (cases_lt i w) [
      | inl front ↦ let e : 0 + i ≡ i = omega arith in rw e at (part-at w 0 i x y (piece-same w 0 x y xs ys len first) front)
      | inr behind ↦
          let at = length x - w in
          let e : length x - w + (i - (length x - w)) ≡ i = omega arith in
          rw e at (part-at w at (i - at) x y (piece-same w at x y xs ys len last) (omega arith))
    ])

-- ---- one to three bytes

digits-same : (a b c d e f g h : ℕ) → a < 256 → b < 256 → c < 256 → d < 256 → e < 256 → f < 256 → g < 256 → h < 256
    → a + b * 256 + c * 65536 + d * 16777216 ≡ e + f * 256 + g * 65536 + h * 16777216 → (a ≡ e) × (b ≡ f) × (c ≡ g) × (d ≡ h)
digits-same a b c d e f g h a_in b_in c_in d_in e_in f_in g_in h_in same = (omega arith, omega arith, omega arith, omega arith)

-- so few bytes are the first, the middle and the last
by_three : (x y : List ℕ) → length x ≡ length y → length x < 4 → slice_index x 0 ≡ slice_index y 0
    → slice_index x (length x / 2) ≡ slice_index y (length x / 2) → slice_index x (length x - 1) ≡ slice_index y (length x - 1) → x ≡ y
by_three x y len few first middle last = ext_get_or 0 x y len (λ i i_in. grind (arith, nat_tests, common_steps, cases_lt))

few-same : (x y : List ℕ) → IsText x → IsText y → length x < 4 → length y < 4 → few_number x ≡ few_number y → x ≡ y
unfolding few_number
few-same x y xs ys x_few y_few same = grind (arith, nat_tests, common_steps, AreWords-at, digits-same, by_three)

few_number-lt : (x : List ℕ) → IsText x → length x < 4 → few_number x < 2 ^ 64
unfolding few_number
few_number-lt x xs few =
    omega (arith, AreWords-at 8 x xs (length x - 1), AreWords-at 8 x xs 0, AreWords-at 8 x xs (length x / 2))

few_flip-lt : (seed : ℕ) → few_flip seed < 2 ^ 64
unfolding few_flip
few_flip-lt seed = mod_below _ (2 ^ 64) (lit< tt)

pub of_few-same : (seed : ℕ) (x y : List ℕ) → IsText x → IsText y → length x < 4 → length y < 4 → of_few seed x ≡ of_few seed y → x ≡ y
of_few-same seed x y xs ys x_few y_few same =
    few-same x y xs ys x_few y_few (told (xored 64 (few_flip seed) (few_flip-lt seed) ▷ of_avalanche_64) (few_number x) (few_number y)
    (few_number-lt x xs x_few) (few_number-lt y ys y_few) same)

-- ---- four to eight bytes

eight-same : (x y : List ℕ) → IsText x → IsText y → length x ≡ length y → 4 ≤ length x → length x < 9 → eight_number x ≡ eight_number y → x ≡ y
unfolding eight_number
eight-same x y xs ys len some few same =
    let same' = same ∙ ap (λ n. half_at (n - 4) y + half_at 0 y * 2 ^ 32) (sym len) in
    let a = piece-lt 4 (length x - 4) x xs in
    let b = piece-lt 4 (length x - 4) y ys in
    by_ends 4 x y xs ys len some (omega arith) (omega (arith, a, b, same')) (omega (arith, a, b, same'))

eight_number-lt : (x : List ℕ) → IsText x → eight_number x < 2 ^ 64
unfolding eight_number
eight_number-lt x xs = omega (arith, piece-lt 4 0 x xs, piece-lt 4 (length x - 4) x xs)

-- the number, and the hash
of_eight_mix : (seed len : ℕ) → len < 16
    → UndoesWords 64 (λ n. length_mix len (bit_xor n (eight_flip seed))) (λ h. bit_xor (un_length_mix len h) (eight_flip seed))
unfolding eight_flip
of_eight_mix seed len len_in = xored 64 _ (mod_below _ (2 ^ 64) (lit< tt)) ▷ of_length_mix len len_in

-- ---- the hash of such texts

pub is_few : (seed : ℕ) (x : List ℕ) → 1 ≤ length x → length x < 4 → xxh3_64_of seed x ≡ of_few seed x
unfolding xxh3_64_of
is_few seed x some few = grind (arith, nat_tests, common_steps)

is_eight : (seed : ℕ) (x : List ℕ) → 4 ≤ length x → length x < 9 → xxh3_64_of seed x ≡ of_eight seed x
unfolding xxh3_64_of
is_eight seed x some few = grind (arith, nat_tests, common_steps)

-- texts of one to three bytes, and texts of one length of four to eight, are known by their hashes
pub few_bytes_same : (seed : ℕ) (x y : List ℕ) → IsText x → IsText y → 1 ≤ length x → length x < 4
    → 1 ≤ length y → length y < 4 → xxh3_64_of seed x ≡ xxh3_64_of seed y → x ≡ y
few_bytes_same seed x y xs ys x_some x_few y_some y_few same =
    of_few-same seed x y xs ys x_few y_few (sym (is_few seed x x_some x_few) ∙ same ∙ is_few seed y y_some y_few)

pub eight_bytes_same : (seed : ℕ) (x y : List ℕ) → IsText x → IsText y → length x ≡ length y
    → 4 ≤ length x → length x < 9 → xxh3_64_of seed x ≡ xxh3_64_of seed y → x ≡ y
eight_bytes_same seed x y xs ys len some few same =
    let led = sym (is_eight seed x some few) ∙ same ∙ is_eight seed y (omega (arith, len, some)) (omega (arith, len, few))
    ∙ ap (λ n. length_mix n (bit_xor (eight_number y) (eight_flip seed))) (sym len) in
    eight-same x y xs ys len some few (told (of_eight_mix seed (length x) (omega arith)) (eight_number x) (eight_number y)
    (eight_number-lt x xs) (eight_number-lt y ys) led)

-- ---- eight bytes, as two halves

of_two_halves : Undoes (λ (p : ℕ × ℕ). (p.0 < 2 ^ 32) × (p.1 < 2 ^ 32)) (IsWord 64) (λ p. p.1 + p.0 * 2 ^ 32) (λ n. (n / 2 ^ 32, n % 2 ^ 32))
of_two_halves = grind (arith, nat_tests, common_steps)

of_number : Undoes (IsPiece 8) (IsWord 64) eight_number (λ n. to_le_bytes w32 (n / 2 ^ 32) ++ to_le_bytes w32 (n % 2 ^ 32))
unfolding eight_number
of_number =
    likewise (λ t is. rw (is.1, take_all 4 (drop 4 t) (omega (arith, is.1, length-drop 4 t))) refl) (λ n _. refl)
    (of_halves 4 8 refl ▷ both of_four_bytes of_four_bytes ▷ of_two_halves)

-- the text of eight bytes, and its hash
pub of_eight_bytes_of : (seed : ℕ) → Undoes (IsPiece 8) (IsWord 64) (xxh3_64_of seed)
    (λ h. let n = bit_xor (un_length_mix 8 h) (eight_flip seed) in to_le_bytes w32 (n / 2 ^ 32) ++ to_le_bytes w32 (n % 2 ^ 32))
of_eight_bytes_of seed =
    likewise (λ t is. is_eight seed t (omega (arith, is.1)) (omega (arith, is.1))
    ∙ ap (λ n. length_mix n (bit_xor (eight_number t) (eight_flip seed))) is.1) (λ h _. refl)
    (of_number ▷ of_eight_mix seed 8 (lit< tt))
