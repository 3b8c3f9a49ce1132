-- The number that a few bytes are.
use Rattle.hash_words.proofs.Common.{◌≡◌, ℕ, suc, ◌+◌, ◌*◌, ◌/◌, ◌%◌, ◌^◌, ◌<◌, ◌≤◌, List, [], ◌∷◌, ◌++◌, length, take, drop, refl, ap, sym, ap₂, ◌∙◌, arith, lit<, pow-le-pow_right, All-head, All-tail, All-take, le, pow-add, length-take-le, take-append-drop}
use Rattle.hash_words.proofs.PieceLemmas.{AreBytes, IsByte, le-lt}

-- up to k bytes are a number below 256^k
pub le-few : (k : ℕ) (bytes : List ℕ) → AreBytes bytes → length bytes ≤ k → le bytes < 256 ^ k
le-few k bytes are few =
    let most : 256 ^ length bytes ≤ 256 ^ k = pow-le-pow_right {n = 256} (lit< tt) {i = length bytes} {j = k} few in
    omega (arith, le-lt bytes are, most)

-- a byte more is a factor of 256
more : (n : ℕ) → 2 ^ (8 * suc n) ≡ 256 * 2 ^ (8 * n)
more n = ap (λ k. 2 ^ k) (let e : 8 * suc n ≡ 8 + 8 * n = omega arith in e) ∙ pow-add 2 8 (8 * n)

-- bytes are a number below a power of 256
pub le-power : (bytes : List ℕ) → AreBytes bytes → le bytes < 2 ^ (8 * length bytes)
unfolding le
le-power [] are = lit< tt
le-power (b ∷ bytes) are =
    omega (arith, All-head IsByte b bytes are, le-power bytes (All-tail IsByte b bytes are), more (length bytes))

pub le-word : (bytes : List ℕ) → AreBytes bytes → length bytes ≤ 8 → le bytes < 2 ^ 64
le-word bytes are few =
    let below : le bytes < 256 ^ 8 = le-few 8 bytes are few in
    omega (arith, below)

-- bytes behind bytes
pub le-append : (front back : List ℕ) → le (front ++ back) ≡ le front + le back * 2 ^ (8 * length front)
unfolding le
le-append [] back = omega arith
le-append (b ∷ front) back =
    let e : le back * 2 ^ (8 * suc (length front)) ≡ 256 * (le back * 2 ^ (8 * length front)) =
    ap (λ k. le back * k) (more (length front)) ∙ (let f : le back * (256 * 2 ^ (8 * length front)) ≡ 256 * (le back * 2 ^ (8 * length front)) = omega arith in f) in
    omega (arith, le-append front back, e)

-- sixteen bytes are two words
pub le-two : (bytes : List ℕ) → AreBytes bytes → length bytes ≡ 16
    → (le bytes % 2 ^ 64 ≡ le (take 8 bytes)) × (le bytes / 2 ^ 64 ≡ le (drop 8 bytes))
le-two bytes are sixteen =
    let eight : length (take 8 bytes) ≡ 8 = length-take-le 8 bytes (omega arith) in
    let joined : le bytes ≡ le (take 8 bytes) + le (drop 8 bytes) * 2 ^ 64 =
    ap le (sym (take-append-drop 8 bytes)) ∙ le-append (take 8 bytes) (drop 8 bytes)
    ∙ ap (λ k. le (take 8 bytes) + le (drop 8 bytes) * 2 ^ (8 * k)) eight in
    let low : le (take 8 bytes) < 2 ^ 64 = le-word (take 8 bytes) (All-take IsByte 8 bytes are) (omega arith) in
    (omega (arith, joined, low), omega (arith, joined, low))

-- of two texts that are one number the longer begins with the other
pub le-begins : (s t : List ℕ) → AreBytes s → AreBytes t → length s ≤ length t → le s ≡ le t → take (length s) t ≡ s
unfolding le
le-begins [] t s_are t_are less same = refl
le-begins (x ∷ s) [] s_are t_are less same = absurd (omega arith)
le-begins (x ∷ s) (y ∷ t) s_are t_are less same =
    let x_in = All-head IsByte x s s_are in
    let y_in = All-head IsByte y t t_are in
    let first : y ≡ x = omega (arith, same, x_in, y_in) in
    let rest : le s ≡ le t = omega (arith, same, x_in, y_in) in
    ap₂ (λ (b : ℕ) (bs : List ℕ). b ∷ bs) first
    (le-begins s t (All-tail IsByte x s s_are) (All-tail IsByte y t t_are) (omega (arith, less)) rest)
