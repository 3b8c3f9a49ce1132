-- Each pair of hashes of two sums that differ in a word comes from few keys: the words differ by a power of two times an odd number.
use Rattle.std.proofs.lemmas.Grind.{common_steps}
use Rattle.std.proofs.lemmas.Bool.Decides.{nat_tests}
use Rattle.hash_map_keys.proofs.Common.{ℕ, All, AllPairs, List, ap, ap₂, arith, cases_order, div-add-mod, div-eq_of_lt, div-lt_iff_lt-mul, inl, inr, le_of_mul-le-mul_left, length, lit<, mod-lt, mul-add-lt, pow-add, pow_pos, subst, sym, ◌%◌, ◌*◌, ◌+◌, ◌-◌, ◌/◌, ◌<◌, ◌^◌, ◌∙◌, ◌≡◌, ◌≢◌, ◌≤◌}
use Rattle.hash_map_keys.proofs.Counting.{count}
use Rattle.hash_map_keys.proofs.Odds.{parts_of, rest_from, rows, same_by_places, same_in_row}

-- ---- remainders

-- a remainder modulo a multiple
inner : (n s t : ℕ) → n % (s * t) % s ≡ n % s
inner n s t =
    let e : n % (s * t) + s * (t * (n / (s * t))) ≡ n + s * 0 = omega arith in
    rest_from s (n % (s * t)) n (t * (n / (s * t))) 0 e

-- equal products by a factor
cancel : (s a b : ℕ) → 0 < s → s * a ≡ s * b → a ≡ b
cancel s a b some same = grind (arith, nat_tests, common_steps, le_of_mul-le-mul_left)

-- an addend from its sum
pub same_addend : (z b d : ℕ) → b < 2 ^ 128 → d < 2 ^ 128 → (z + b) % 2 ^ 128 ≡ (z + d) % 2 ^ 128 → b ≡ d
same_addend z b d b_in d_in same = grind (arith, nat_tests, common_steps, same_in_row, div-eq_of_lt)

-- two pairs of sums, whose differences are the same but for s * g and s * h
module _ (s n a b g a2 b2 h c d : ℕ) (some : 0 < s) (one : a + d ≡ b + c + s * g) (two : a2 + d ≡ b2 + c + s * h)
    (firsts : a % (s * n) ≡ a2 % (s * n)) where
  lows_same : b % s ≡ b2 % s
  lows_same =
      let e : b + s * (g + n * (a2 / (s * n))) ≡ b2 + s * (h + n * (a / (s * n))) = omega (arith, one, two) in
      rest_from s b b2 (g + n * (a2 / (s * n))) (h + n * (a / (s * n))) e

  terms_same : b % (s * n) ≡ b2 % (s * n) → g % n ≡ h % n
  terms_same seconds =
      let m = s * n in
      let first = rows m a a2 firsts in
      let x = a2 / m + b / m in
      let y = a / m + b2 / m in
      let e : s * (g + n * x) ≡ s * (h + n * y) = omega (arith, one, two, first) in
      rest_from n g h x y (cancel s (g + n * x) (h + n * y) some e)

-- ---- one key

-- keys by the multiplier of a word in which the words hashed differ, the addend, and what else they have, which adds a product of its own;
-- a number below `many` tells what else it is
module _ {R : Type 0} (many : ℕ) (mark : R → ℕ) (valid : R → Type 0) (mark_in : (r : R) → valid r → mark r < many)
    (mark_tells : (r o : R) → valid r → valid o → mark r ≡ mark o → r ≡ o) where
  abbrev Parts : Type 0
  Parts = ℕ × ℕ × R

  abbrev sum : (R → ℕ) → ℕ → Parts → ℕ
  sum c z key = key.0 * z + (key.1 + c key.2)

  -- its 128 bits
  abbrev full : (R → ℕ) → ℕ → Parts → ℕ
  full c z key = sum c z key % 2 ^ 128

  abbrev hash_of : (R → ℕ) → ℕ → Parts → ℕ
  hash_of c z key = full c z key / 2 ^ 64

  abbrev AreParts : Parts → Type 0
  AreParts key = (key.0 < 2 ^ 128) × (key.1 < 2 ^ 128) × valid key.2

  key_same : (k l : Parts) → k.0 ≡ l.0 → k.1 ≡ l.1 → k.2 ≡ l.2 → k ≡ l
  key_same k l one two three = ap₂ (λ (a : ℕ) (b : ℕ × R). (a, b.0, b.1)) one (ap₂ (λ (b : ℕ) (r : R). (b, r)) two three)

  module _ (c d : R → ℕ) (x y s q : ℕ) (apart : x ≡ y + 2 ^ s * (2 * q + 1)) (low : s ≤ 64) where
    abbrev t : ℕ
    t = 2 ^ (64 - s)

    abbrev n : ℕ
    n = 2 ^ (128 - s)

    half_is : 2 ^ 64 ≡ 2 ^ s * t
    half_is = ap (λ k. 2 ^ k) (let e : 64 ≡ s + (64 - s) = omega arith in e) ∙ pow-add 2 s (64 - s)

    all_is : 2 ^ 128 ≡ 2 ^ s * n
    all_is = ap (λ k. 2 ^ k) (let e : 128 ≡ s + (128 - s) = omega arith in e) ∙ pow-add 2 s (128 - s)

    -- the low half of the one, the high bits of the low half of the other, the row of the multiplier, and the rest of the key
    abbrev halves : Parts → ℕ
    halves key = full c x key % 2 ^ 64 * t + full d y key % 2 ^ 64 / 2 ^ s

    abbrev code : Parts → ℕ
    code key = (halves key * 2 ^ s + key.0 / n) * many + mark key.2

    row_in : (a : ℕ) → a < 2 ^ 128 → a / n < 2 ^ s
    row_in a a_in = (div-lt_iff_lt-mul (pow_pos (128 - s))).1 (subst (λ k. a < k) all_is a_in)

    part_in : (v : ℕ) → v % 2 ^ 64 / 2 ^ s < t
    part_in v = grind (arith, nat_tests, common_steps, div-lt_iff_lt-mul, pow_pos, half_is, mod-lt)

    code_in : (key : Parts) → AreParts key → code key < many * 2 ^ 128
    code_in key is =
        let first = mul-add-lt (full c x key % 2 ^ 64) t (full d y key % 2 ^ 64 / 2 ^ s) (2 ^ 64) (mod-lt (full c x key) (lit< tt))
        (part_in (full d y key)) in
        let both = mul-add-lt (halves key) (2 ^ s) (key.0 / n) (t * 2 ^ 64) first (row_in key.0 is.0) in
        let e : 2 ^ s * (t * 2 ^ 64) ≡ 2 ^ s * t * 2 ^ 64 = omega arith in
        mul-add-lt (halves key * 2 ^ s + key.0 / n) many (mark key.2) (2 ^ 128)
        (subst (λ k. halves key * 2 ^ s + key.0 / n < k) (e ∙ ap (λ k. k * 2 ^ 64) (sym half_is)) both) (mark_in key.2 is.2)

    apart_by : (key : Parts) → sum c x key + d key.2 ≡ sum d y key + c key.2 + 2 ^ s * (key.0 * (2 * q + 1))
    apart_by key = omega (arith, ap (λ z. key.0 * z) apart)

    low_of : (v : ℕ) → v % 2 ^ 128 % 2 ^ 64 % 2 ^ s ≡ v % 2 ^ s
    low_of v =
        ap (λ k. v % 2 ^ 128 % k % 2 ^ s) half_is ∙ inner (v % 2 ^ 128) (2 ^ s) t ∙ ap (λ k. v % k % 2 ^ s) all_is ∙ inner v (2 ^ s) n

    -- the code and the hashes tell the key
    tells : (k l : Parts) → AreParts k → AreParts l → hash_of c x k ≡ hash_of c x l → hash_of d y k ≡ hash_of d y l
        → code k ≡ code l → k ≡ l
    tells k l k_in l_in first second same =
        let whole = same_by_places many (halves k * 2 ^ s + k.0 / n) (halves l * 2 ^ s + l.0 / n) (mark k.2) (mark l.2) (mark_in k.2 k_in.2) (mark_in l.2 l_in.2) same in
        let rests : k.2 ≡ l.2 = mark_tells k.2 l.2 k_in.2 l_in.2 whole.1 in
        let outer = same_by_places (2 ^ s) (halves k) (halves l) (k.0 / n) (l.0 / n) (row_in k.0 k_in.0) (row_in l.0 l_in.0) whole.0 in
        let inside = same_by_places t (full c x k % 2 ^ 64) (full c x l % 2 ^ 64) (full d y k % 2 ^ 64 / 2 ^ s) (full d y l % 2 ^ 64 / 2 ^ s)
        (part_in (full d y k)) (part_in (full d y l)) outer.0 in
        let x_same : full c x k ≡ full c x l = omega (arith, first, inside.0) in
        let firsts = ap (λ m. sum c x k % m) (sym all_is) ∙ x_same ∙ ap (λ m. sum c x l % m) all_is in
        let one = apart_by k in
        let two : sum c x l + d k.2 ≡ sum d y l + c k.2 + 2 ^ s * (l.0 * (2 * q + 1)) =
        omega (arith, apart_by l, ap c rests, ap d rests) in
        let g = k.0 * (2 * q + 1) in
        let h = l.0 * (2 * q + 1) in
        let lows = low_of (sum d y k)
        ∙ lows_same (2 ^ s) n (sum c x k) (sum d y k) g (sum c x l) (sum d y l) h (c k.2) (d k.2) (pow_pos s) one two firsts
        ∙ sym (low_of (sum d y l)) in
        let halves_same : full d y k % 2 ^ 64 ≡ full d y l % 2 ^ 64 =
        omega (arith, div-add-mod (full d y k % 2 ^ 64) (2 ^ s), div-add-mod (full d y l % 2 ^ 64) (2 ^ s), lows, ap (λ z. 2 ^ s * z) inside.1) in
        let y_same : full d y k ≡ full d y l = omega (arith, second, halves_same) in
        let products = terms_same (2 ^ s) n (sum c x k) (sum d y k) g (sum c x l) (sum d y l) h (c k.2) (d k.2) (pow_pos s) one two firsts
        (ap (λ m. sum d y k % m) (sym all_is) ∙ y_same ∙ ap (λ m. sum d y l % m) all_is) in
        let kz : g + 0 ≡ g = omega arith in
        let lz : h ≡ h + 0 = omega arith in
        let a_same : k.0 ≡ l.0 = same_in_row (128 - s) q 0 k.0 l.0 outer.1 (ap (λ z. z % n) kz ∙ products ∙ ap (λ z. z % n) lz) in
        let left : k.0 * x + c k.2 + k.1 ≡ sum c x k = omega arith in
        let right : sum c x l ≡ k.0 * x + c k.2 + l.1 = omega (arith, ap (λ z. z * x) a_same, ap c rests) in
        let b_same : k.1 ≡ l.1 =
        same_addend (k.0 * x + c k.2) k.1 l.1 k_in.1 l_in.1 (ap (λ z. z % 2 ^ 128) left ∙ x_same ∙ ap (λ z. z % 2 ^ 128) right) in
        key_same k l a_same b_same rests

  -- ---- keys of any form

  module _ {X : Type 0} (is : X → Type 0) (parts : X → Parts) (tell : (k l : X) → is k → is l → parts k ≡ parts l → k ≡ l)
      (are_parts : (k : X) → is k → AreParts (parts k)) where
    even_above : (c d : R → ℕ) (x y u v : ℕ) (keys : List X) → x < 2 ^ 64 → y < x → AllPairs ◌≢◌ keys → All is keys
        → All (λ k. (hash_of c x (parts k) ≡ u) × (hash_of d y (parts k) ≡ v)) keys → length keys ≤ many * 2 ^ 128
    even_above c d x y u v keys x_in above differ are have =
        let (s, q, apart, few) = parts_of x y x_in above in
        let low : s ≤ 64 = omega (arith, few) in
        count (λ k. is k × (hash_of c x (parts k) ≡ u) × (hash_of d y (parts k) ≡ v))
        (λ k. code c d x y s q apart low (parts k)) (many * 2 ^ 128) keys differ
        (λ i any h. (are i any h, (have i any h).0, (have i any h).1))
        (λ k k_is. code_in c d x y s q apart low (parts k) (are_parts k k_is.0))
        (λ k l k_is l_is same. tell k l k_is.0 l_is.0 (tells c d x y s q apart low (parts k) (parts l) (are_parts k k_is.0) (are_parts l l_is.0)
        (k_is.1 ∙ sym l_is.1) (k_is.2 ∙ sym l_is.2) same))

    pub even : (c d : R → ℕ) (x y u v : ℕ) (keys : List X) → x < 2 ^ 64 → y < 2 ^ 64 → x ≢ y → AllPairs ◌≢◌ keys → All is keys
        → All (λ k. (hash_of c x (parts k) ≡ u) × (hash_of d y (parts k) ≡ v)) keys → length keys ≤ many * 2 ^ 128
    even c d x y u v keys x_in y_in apart differ are have = elim (cases_order x y) [
      | inl equal ↦ absurd (apart equal)
      | inr (inl below) ↦ even_above d c y x v u keys y_in below differ are (λ i any h. ((have i any h).1, (have i any h).0))
      | inr (inr above) ↦ even_above c d x y u v keys x_in above differ are have
    ]
