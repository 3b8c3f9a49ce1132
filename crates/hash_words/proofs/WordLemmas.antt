-- Arithmetic on words.
use Rattle.hash_words.proofs.Common.{◌≡◌, ℕ, zero, suc, ◌∷◌, ◌+◌, ◌-◌, ◌*◌, ◌/◌, ◌%◌, ◌^◌, ◌<◌, ◌≤◌, List, [], length, slice_index, bit_or, refl, sym, ◌∙◌, ap, subst, add_comm, add-zero, arith, inl, inr, w32, w64, w128, from_le_bytes, to_le_bytes, rotate_left, mod-eq_of_lt, mod-eq-sub-mod, mul-mod_left, pow_pos, shl-shr, shr_high, mod_low, mod-pow-add, shr_split, mod_below, shr_below, or_shifted, mul-add-lt, from_le_bytes-to_le_bytes_4, from_le_bytes-to_le_bytes_8, cases_lt, All-from_get_or, add, sub, rotl, le, swap_halves, AreWords, pow-add, get_or-eq_default}

-- a number below m is itself after a sum and a difference modulo m
module _ (m x y : ℕ) (x_in : x < m) (y_in : y < m) where
  sub-add_mod : ((x + y) % m + (m - y)) % m ≡ x
  sub-add_mod = elim (cases_lt (x + y) m) [
    | inl small ↦
        let a : (x + y) % m ≡ x + y = mod-eq_of_lt small in
        let b : x + y + (m - y) ≡ x + m = omega arith in
        rw (a, b) (mod-eq-sub-mod {n = x + m} {m = m} (omega arith) ∙ ap (λ n. n % m) (let e : x + m - m ≡ x = omega arith in e)
        ∙ mod-eq_of_lt x_in)
    | inr large ↦
        let a : (x + y) % m ≡ x + y - m = mod-eq-sub-mod large ∙ mod-eq_of_lt (omega arith) in
        let b : x + y - m + (m - y) ≡ x = omega arith in
        rw (a, b) (mod-eq_of_lt x_in)
  ]

  add-sub_mod : ((x + (m - y)) % m + y) % m ≡ x
  add-sub_mod = elim (cases_lt x y) [
    | inl below ↦
        let a : (x + (m - y)) % m ≡ x + (m - y) = mod-eq_of_lt (omega arith) in
        let b : x + (m - y) + y ≡ x + m = omega arith in
        rw (a, b) (mod-eq-sub-mod {n = x + m} {m = m} (omega arith) ∙ ap (λ n. n % m) (let e : x + m - m ≡ x = omega arith in e)
        ∙ mod-eq_of_lt x_in)
    | inr above ↦
        let a : (x + (m - y)) % m ≡ x + (m - y) - m = mod-eq-sub-mod {n = x + (m - y)} {m = m} (omega arith) ∙ mod-eq_of_lt (omega arith) in
        let b : x + (m - y) - m + y ≡ x = omega arith in
        rw (a, b) (mod-eq_of_lt x_in)
  ]

pub sub-add : (w x y : ℕ) → x < 2 ^ w → y < 2 ^ w → sub w (add w x y) y ≡ x
sub-add w x y x_in y_in = sub-add_mod (2 ^ w) x y x_in y_in

pub add-sub : (w x y : ℕ) → x < 2 ^ w → y < 2 ^ w → add w (sub w x y) y ≡ x
add-sub w x y x_in y_in = add-sub_mod (2 ^ w) x y x_in y_in

-- a word to which something is added is known by the sum
pub word-same : (a b x : ℕ) → a < 2 ^ 64 → b < 2 ^ 64 → (a + x) % 2 ^ 64 ≡ (b + x) % 2 ^ 64 → a ≡ b
word-same a b x a_in b_in same = omega arith

-- a rotation exchanges the high part and the low part
pub rotl_split : (j k x : ℕ) → rotl (j + k) x k ≡ x % 2 ^ j * 2 ^ k + x / 2 ^ j
unfolding rotl
rotl_split j k x =
    let at_j : j + k - k ≡ j = omega arith in
    rw (at_j, mod-pow-add (x * 2 ^ k) j k, shl-shr x k, mul-mod_left x (2 ^ k), add-zero) refl

module _ (j k x : ℕ) (x_in : x < 2 ^ (j + k)) where
  low_in : x % 2 ^ j < 2 ^ j
  low_in = mod_below x (2 ^ j) (pow_pos j)

  high_in : x / 2 ^ j < 2 ^ k
  high_in = shr_below x k j (rw (add_comm k j) x_in)

  rotl_below : rotl (j + k) x k < 2 ^ (j + k)
  rotl_below =
      rw (rotl_split j k x, add_comm j k, pow-add 2 k j) (mul-add-lt (x % 2 ^ j) (2 ^ k) (x / 2 ^ j) (2 ^ j) low_in high_in)

  rotl_back : rotl (j + k) (rotl (j + k) x k) j ≡ x
  rotl_back =
      rw (
        rotl_split j k x,
        add_comm j k,
        rotl_split k j (x % 2 ^ j * 2 ^ k + x / 2 ^ j),
        mod_low (x % 2 ^ j) k (x / 2 ^ j) high_in,
        shr_high (x % 2 ^ j) k (x / 2 ^ j) high_in,
      ) (shr_split x j)

  rotl_joined : bit_or (x * 2 ^ k % 2 ^ (j + k)) (x / 2 ^ j) ≡ rotl (j + k) x k
  rotl_joined =
      rw (rotl_split j k x, mod-pow-add (x * 2 ^ k) j k, shl-shr x k, mul-mod_left x (2 ^ k), add-zero)
      (or_shifted (x % 2 ^ j) k (x / 2 ^ j) high_in)

module _ (w x k : ℕ) (within : k ≤ w) (x_in : x < 2 ^ w) where
  parts_of : w - k + k ≡ w
  parts_of = omega arith

  in_parts : x < 2 ^ (w - k + k)
  in_parts = rw parts_of x_in

  pub rotl-lt : rotl w x k < 2 ^ w
  rotl-lt = subst (λ n. rotl n x k < 2 ^ n) parts_of (rotl_below (w - k) k x in_parts)

  -- to rotate on by the rest of the width is to rotate back
  pub rotl-rotl : rotl w (rotl w x k) (w - k) ≡ x
  rotl-rotl = subst (λ n. rotl n (rotl n x k) (w - k) ≡ x) parts_of (rotl_back (w - k) k x in_parts)

  -- the two parts that a rotation joins by `|`
  pub rotl-or : bit_or (x * 2 ^ k % 2 ^ w) (x / 2 ^ (w - k)) ≡ rotl w x k
  rotl-or = subst (λ n. bit_or (x * 2 ^ k % 2 ^ n) (x / 2 ^ (w - k)) ≡ rotl n x k) parts_of (rotl_joined (w - k) k x in_parts)

-- std's rotation takes its amounts modulo the width
pub rotate_left-32 : (x k : ℕ) → x < 2 ^ 32 → 0 < k → k < 32 → rotate_left w32 x k ≡ rotl 32 x k
rotate_left-32 x k x_in some within =
    let turn : k % 32 ≡ k = mod-eq_of_lt within in
    let rest : (32 - k) % 32 ≡ 32 - k = mod-eq_of_lt (omega arith) in
    rw (turn, rest) (rotl-or 32 x k (omega arith) x_in)

pub rotate_left-64 : (x k : ℕ) → x < 2 ^ 64 → 0 < k → k < 64 → rotate_left w64 x k ≡ rotl 64 x k
rotate_left-64 x k x_in some within =
    let turn : k % 64 ≡ k = mod-eq_of_lt within in
    let rest : (64 - k) % 64 ≡ 64 - k = mod-eq_of_lt (omega arith) in
    rw (turn, rest) (rotl-or 64 x k (omega arith) x_in)

-- ---- little-endian bytes

-- the value of at most n bytes by their places, past the last of which a list reads 0
abbrev pub value_of : ℕ → (ℕ → ℕ) → ℕ
value_of zero at = 0
value_of (suc n) at = at 0 + 256 * value_of n (λ i. at (suc i))

pub le_by_places : (n : ℕ) (t : List ℕ) → length t ≤ n → le t ≡ value_of n (slice_index t)
unfolding le
le_by_places zero [] few = refl
le_by_places zero (b ∷ t) few = absurd (omega arith)
le_by_places (suc n) [] few = omega (arith, le_by_places n [] (omega arith))
le_by_places (suc n) (b ∷ t) few = ap (λ v. b + 256 * v) (le_by_places n t (omega (arith, few)))

pub from_le_bytes-4 : (bs : List ℕ) → length bs ≡ 4 → from_le_bytes w32 bs ≡ le bs
from_le_bytes-4 bs len = omega (arith, le_by_places 4 bs (omega arith))

pub from_le_bytes-8 : (bs : List ℕ) → length bs ≡ 8 → from_le_bytes w64 bs ≡ le bs
from_le_bytes-8 bs len = omega (arith, le_by_places 8 bs (omega arith))

pub from_le_bytes-16 : (bs : List ℕ) → length bs ≡ 16 → from_le_bytes w128 bs ≡ le bs
from_le_bytes-16 bs len = omega (arith, le_by_places 16 bs (omega arith))

-- the value of a word's bytes
pub le-to_le_bytes-32 : (x : ℕ) → x < 2 ^ 32 → le (to_le_bytes w32 x) ≡ x
le-to_le_bytes-32 x x_in = sym (from_le_bytes-4 (to_le_bytes w32 x) refl) ∙ from_le_bytes-to_le_bytes_4 x x_in

pub le-to_le_bytes-64 : (x : ℕ) → x < 2 ^ 64 → le (to_le_bytes w64 x) ≡ x
le-to_le_bytes-64 x x_in = sym (from_le_bytes-8 (to_le_bytes w64 x) refl) ∙ from_le_bytes-to_le_bytes_8 x x_in

pub swap_halves-is : (x : ℕ) → rotl 64 x 32 ≡ swap_halves x
swap_halves-is x = rotl_split 32 32 x

-- ---- lists of words

pub AreWords-from : (w : ℕ) (s : List ℕ) → ((i : ℕ) → slice_index s i < 2 ^ w) → AreWords w s
AreWords-from w s fits = All-from_get_or (λ x. x < 2 ^ w) s 0 (λ i _. fits i)

-- past the last word a list of words reads 0
pub AreWords-at : (w : ℕ) (s : List ℕ) → AreWords w s → (i : ℕ) → slice_index s i < 2 ^ w
AreWords-at w s are i = elim (cases_lt i (length s)) [
  | inl within ↦ are i 0 within
  | inr past ↦ rw (get_or-eq_default s 0 past) (pow_pos w)
]

pub no_words : (w : ℕ) (i : ℕ) → slice_index [] i < 2 ^ w
no_words w i = pow_pos w
