-- XXH3 of 128 bits of nine to sixteen bytes, as a function of the first word and the last one, and what undoes it.
use Rattle.hash_theorems.proofs.Xxh3Common.{◌≡◌, ℕ, ◌-◌, ◌*◌, ◌/◌, ◌%◌, ◌^◌, ◌<◌, List, ◌++◌, length, drop, bit_xor, refl, ◌∙◌, lit<, arith, length-drop, w64, take_all, mod_below, mul-lt, div_below, swap_bytes, to_le_bytes, add, sub, Undoes, UndoesWords, of_eight_bytes, of_halves, IsPiece, ◌▷◌, likewise, both, on_first, on_second, xored, added, added_onto, multiplied, word_at, times, secret_pair, common_steps, nat_tests}
use Rattle.hash_xxh3.specs.Wide
use Rattle.hash_theorems.proofs.MixLemmas.{un_avalanche, of_avalanche}

abbrev pub AreTwo : ℕ × ℕ → Type 0
AreTwo p = (p.0 < 2 ^ 64) × (p.1 < 2 ^ 64)

swap-lt : (n : ℕ) → swap_bytes w64 n < 2 ^ 64
swap-lt n = omega arith

pub high-lt : (x m : ℕ) → x < 2 ^ 64 → m < 2 ^ 64 → x * m / 2 ^ 64 < 2 ^ 64
high-lt x m x_in m_in = div_below (x * m) (2 ^ 64) (2 ^ 64) (lit< tt) (mul-lt x m (2 ^ 64) (2 ^ 64) x_in m_in)

-- a word, and a product of its low half: that half is known by that of the sum
of_back : UndoesWords 64 (λ b. add 64 b (b % 2 ^ 32 * 0x85ebca76)) (λ s. sub 64 s (s % 2 ^ 32 * 0xb6c92f47 % 2 ^ 32 * 0x85ebca76))
of_back = grind (arith, nat_tests, common_steps, mod_below, lit<)

-- the two words of the hash from the two of the text, folded under two of the secret
abbrev pub mixed : (len f g : ℕ) → ℕ × ℕ → ℕ × ℕ
mixed len f g (first, last) =
    let product = bit_xor (bit_xor first last) f * 0x9e3779b185ebca87 in
    let high = Wide.sixteen_high product (bit_xor last g) in
    Wide.sixteen_end (Wide.sixteen_low len product high) high

abbrev pub unmixed : (len f g : ℕ) → ℕ × ℕ → ℕ × ℕ
unmixed len f g (h0, h1) =
    let low = times (un_avalanche h0) 0xba79078168d4baf in
    let high = times (sub 64 (un_avalanche h1) (low * 0xc2b2ae3d27d4eb4f / 2 ^ 64)) 0xba79078168d4baf in
    let word = times (sub 64 (bit_xor low (swap_bytes w64 high)) ((len - 1) * 2 ^ 54)) 0x887493432badb37 in
    let sum = sub 64 high (word * 0x9e3779b185ebca87 / 2 ^ 64) in
    let last = bit_xor (sub 64 sum (sum % 2 ^ 32 * 0xb6c92f47 % 2 ^ 32 * 0x85ebca76)) g in
    (bit_xor (bit_xor word f) last, last)

pub of_mixed : (len f g : ℕ) → len < 17 → f < 2 ^ 64 → g < 2 ^ 64 → Undoes AreTwo AreTwo (mixed len f g) (unmixed len f g)
unfolding Wide.sixteen_high Wide.sixteen_low Wide.sixteen_end
of_mixed len f g few f_in g_in =
    on_first (λ last last_in. xored 64 last last_in ▷ xored 64 f f_in)
    ▷ on_second (λ word word_in. xored 64 g g_in ▷ of_back ▷ added_onto 64 (word * 0x9e3779b185ebca87 / 2 ^ 64) (high-lt _ _ word_in (lit< tt)))
    ▷ on_first (λ high _. multiplied 64 0x9e3779b185ebca87 0x887493432badb37 refl ▷ added 64 ((len - 1) * 2 ^ 54) (omega arith)
    ▷ xored 64 (swap_bytes w64 high) (swap-lt high))
    ▷ on_second (λ low low_in. multiplied 64 0xc2b2ae3d27d4eb4f 0xba79078168d4baf refl
    ▷ added_onto 64 (low * 0xc2b2ae3d27d4eb4f / 2 ^ 64) (high-lt _ _ low_in (lit< tt)) ▷ of_avalanche)
    ▷ on_first (λ _ _. multiplied 64 0xc2b2ae3d27d4eb4f 0xba79078168d4baf refl ▷ of_avalanche)

-- of a text under a seed
abbrev pub of_words : (seed len : ℕ) → ℕ × ℕ → ℕ × ℕ
of_words seed len = mixed len (sub 64 (secret_pair 32) seed) (add 64 (secret_pair 48) seed)

abbrev pub un_words : (seed len : ℕ) → ℕ × ℕ → ℕ × ℕ
un_words seed len = unmixed len (sub 64 (secret_pair 32) seed) (add 64 (secret_pair 48) seed)

pub of_sixteen_words : (seed len : ℕ) → len < 17 → Undoes AreTwo AreTwo (of_words seed len) (un_words seed len)
of_sixteen_words seed len few = of_mixed len _ _ few (mod_below _ (2 ^ 64) (lit< tt)) (mod_below _ (2 ^ 64) (lit< tt))

pub by_words : (seed : ℕ) (x : List ℕ) → Wide.wide_sixteen seed x ≡ of_words seed (length x) (word_at 0 x, word_at (length x - 8) x)
unfolding Wide.sixteen_product Wide.sixteen_back
by_words seed x = refl

-- sixteen bytes, and their hash
pub of_sixteen_bytes : (seed : ℕ) → Undoes (IsPiece 16) AreTwo (Wide.wide_sixteen seed)
    (λ h. let p = un_words seed 16 h in to_le_bytes w64 p.0 ++ to_le_bytes w64 p.1)
of_sixteen_bytes seed =
    likewise (λ t is. by_words seed t ∙ rw (is.1, take_all 8 (drop 8 t) (omega (arith, is.1, length-drop 8 t))) refl) (λ h _. refl)
    (of_halves 8 16 refl ▷ both of_eight_bytes of_eight_bytes ▷ of_sixteen_words seed 16 (lit< tt))
