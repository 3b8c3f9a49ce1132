-- The hash of 128 bits loses nothing of texts of one length of at most 16 bytes.
use Rattle.hash_theorems.proofs.Xxh3Common.{◌≡◌, ℕ, ◌+◌, ◌-◌, ◌*◌, ◌/◌, ◌%◌, ◌^◌, ◌<◌, ◌≤◌, List, ◌++◌, length, w64, refl, sym, ◌∙◌, ap, lit<, lit≤, arith, mul-div_cancel, cases_lt, nat_tests, nil_from_length, mod_below, shr_split, IsText, add, Undoes, IsPiece, to_le_bytes, ◌▷◌, likewise, told, xored, multiplied, shifted, shifted_less, word-same, word_at, half_at, times, common_steps, rules}
use Rattle.hash_xxh3.specs.Wide
use Rattle.hash_theorems.proofs.ShortLemmas.{piece-lt, by_ends, of_few-same, word_at-lt}
use Rattle.hash_theorems.proofs.MixLemmas.{of_avalanche}
use Rattle.hash_theorems.proofs.SixteenLemmas.{AreTwo, un_words, of_sixteen_bytes, high-lt, of_words, of_sixteen_words, by_words}

-- ---- nine to sixteen bytes

wide_sixteen-same : (seed : ℕ) (x y : List ℕ) → IsText x → IsText y → length x ≡ length y → 9 ≤ length x → length x < 17
    → Wide.wide_sixteen seed x ≡ Wide.wide_sixteen seed y → x ≡ y
wide_sixteen-same seed x y xs ys len some few same =
    let words = told (of_sixteen_words seed (length x) few) (word_at 0 x, word_at (length x - 8) x) (word_at 0 y, word_at (length x - 8) y)
    (word_at-lt 0 x xs, word_at-lt (length x - 8) x xs) (word_at-lt 0 y ys, word_at-lt (length x - 8) y ys)
    (sym (by_words seed x) ∙ same ∙ by_words seed y ∙ ap (λ n. of_words seed n (word_at 0 y, word_at (n - 8) y)) (sym len)) in
    by_ends 8 x y xs ys len (omega arith) (omega arith) (ap (λ (p : ℕ × ℕ). p.0) words) (ap (λ (p : ℕ × ℕ). p.1) words)

-- ---- four to eight bytes

eight_high-lt : (p : ℕ) → Wide.eight_high p < 2 ^ 64
unfolding Wide.eight_high
eight_high-lt p = mod_below _ (2 ^ 64) (lit< tt)

eight_low-same : (p q h : ℕ) → h < 2 ^ 64 → Wide.eight_low p h ≡ Wide.eight_low q h → p % 2 ^ 64 ≡ q % 2 ^ 64
unfolding Wide.eight_low
eight_low-same p q h h_in =
    told (xored 64 (h / 2 ^ 3) (omega arith) ▷ shifted 64 35 (lit≤ tt) ▷ multiplied 64 0x9fb21c651e98df25 0x2ab9c720d1024ad refl
    ▷ shifted_less 64 28 (lit≤ tt)) (p % 2 ^ 64) (q % 2 ^ 64) (mod_below p (2 ^ 64) (lit< tt)) (mod_below q (2 ^ 64) (lit< tt))

eight_high-same : (p q : ℕ) → p / 2 ^ 64 < 2 ^ 64 → q / 2 ^ 64 < 2 ^ 64 → p % 2 ^ 64 ≡ q % 2 ^ 64 → Wide.eight_high p ≡ Wide.eight_high q
    → p / 2 ^ 64 ≡ q / 2 ^ 64
unfolding Wide.eight_high
eight_high-same p q p_in q_in lows same =
    word-same (p / 2 ^ 64) (q / 2 ^ 64) (times (p % 2 ^ 64) 2) p_in q_in (same ∙ ap (λ n. add 64 (q / 2 ^ 64) (times n 2)) (sym lows))

wide_words-same : (p q : ℕ) → p / 2 ^ 64 < 2 ^ 64 → q / 2 ^ 64 < 2 ^ 64 → Wide.wide_words p ≡ Wide.wide_words q → p ≡ q
wide_words-same p q p_in q_in same = search (rules, told, of_avalanche, eight_high-lt, eight_low-same, shr_split, eight_high-same)

module _ (len : ℕ) (len_in : len < 16) where
  eight_product-lt : (w : ℕ) → w < 2 ^ 64 → Wide.eight_product len w / 2 ^ 64 < 2 ^ 64
  unfolding Wide.eight_product
  eight_product-lt w w_in = high-lt w (0x9e3779b185ebca87 + 4 * len) w_in (omega arith)

  eight_product-same : (v w : ℕ) → Wide.eight_product len v ≡ Wide.eight_product len w → v ≡ w
  unfolding Wide.eight_product
  eight_product-same v w same = grind (arith, nat_tests, common_steps, mul-div_cancel)

number-lt : (x : List ℕ) → IsText x → Wide.eight_wide_number x < 2 ^ 64
unfolding Wide.eight_wide_number
number-lt x xs = omega (arith, piece-lt 4 0 x xs, piece-lt 4 (length x - 4) x xs)

number-same : (x y : List ℕ) → IsText x → IsText y → length x ≡ length y → 4 ≤ length x → length x < 9
    → Wide.eight_wide_number x ≡ Wide.eight_wide_number y → x ≡ y
unfolding Wide.eight_wide_number
number-same x y xs ys len some few same =
    let same' = same ∙ ap (λ n. half_at 0 y + half_at (n - 4) y * 2 ^ 32) (sym len) in
    let a = piece-lt 4 0 x xs in
    let b = piece-lt 4 0 y ys in
    by_ends 4 x y xs ys len some (omega arith) (omega (arith, a, b, same')) (omega (arith, a, b, same'))

flip-lt : (seed : ℕ) → Wide.eight_wide_flip seed < 2 ^ 64
unfolding Wide.eight_wide_flip
flip-lt seed = mod_below _ (2 ^ 64) (lit< tt)

wide_eight-same : (seed : ℕ) (x y : List ℕ) → IsText x → IsText y → length x ≡ length y → 4 ≤ length x → length x < 9
    → Wide.wide_eight seed x ≡ Wide.wide_eight seed y → x ≡ y
wide_eight-same seed x y xs ys len some few same =
    let len_in : length x < 16 = omega arith in
    let of_flip = xored 64 (Wide.eight_wide_flip seed) (flip-lt seed) in
    let product = λ (t : List ℕ) (ts : IsText t). eight_product-lt (length x) len_in _ (of_flip.there_in (Wide.eight_wide_number t) (number-lt t ts)) in
    search (rules, wide_words-same, number-same, told, number-lt, eight_product-same)

-- ---- all of them

pub is_short : (seed : ℕ) (x : List ℕ) → length x < 17 → Wide.xxh3_128_of seed x ≡ Wide.wide_short seed x
unfolding Wide.xxh3_128_of
is_short seed x few = grind (arith, nat_tests, common_steps)

is_few : (seed : ℕ) (x : List ℕ) → 1 ≤ length x → length x < 4 → Wide.wide_short seed x ≡ Wide.wide_few seed x
is_few seed x some few = grind (arith, nat_tests, common_steps)

is_eight : (seed : ℕ) (x : List ℕ) → 4 ≤ length x → length x < 9 → Wide.wide_short seed x ≡ Wide.wide_eight seed x
is_eight seed x some few = grind (arith, nat_tests, common_steps)

pub is_sixteen : (seed : ℕ) (x : List ℕ) → 9 ≤ length x → Wide.wide_short seed x ≡ Wide.wide_sixteen seed x
is_sixteen seed x some = grind (arith, nat_tests, common_steps)

pub short_same : (seed : ℕ) (x y : List ℕ) → IsText x → IsText y → length x ≡ length y → length x < 17
    → Wide.xxh3_128_of seed x ≡ Wide.xxh3_128_of seed y → x ≡ y
short_same seed x y xs ys len few same =
    search (rules, is_short, cases_lt, nil_from_length, of_few-same, is_few, wide_eight-same, is_eight, wide_sixteen-same)

-- ---- sixteen bytes, and their hash

pub of_sixteen_bytes_of : (seed : ℕ) → Undoes (IsPiece 16) AreTwo (Wide.xxh3_128_of seed)
    (λ h. let p = un_words seed 16 h in to_le_bytes w64 p.0 ++ to_le_bytes w64 p.1)
of_sixteen_bytes_of seed =
    likewise (λ t is. is_short seed t (omega (arith, is.1)) ∙ is_sixteen seed t (omega (arith, is.1))) (λ h _. refl) (of_sixteen_bytes seed)
