-- A word with two rotations of itself folded on, bit by bit, and how that is undone.
use Rattle.hash_theorems.proofs.Xxh3Common.{◌≡◌, ℕ, ◌+◌, ◌-◌, ◌/◌, ◌%◌, ◌^◌, ◌<◌, ◌≤◌, bit_xor, refl, sym, ◌∙◌, ap, lit<, lit≤, add_comm, arith, bit_at, cases_lt, shr_below, xor_lt, rotl, turned, UndoesWords, rooted, rotated, rotl-lt, rotl_split, common_steps, nat_tests, rules}
use Rattle.std.proofs.lemmas.Nat.Bits.{bit_at-lt, bit_at_xor, bit_at_cat_low, bit_at_cat_high, same_from_bits_below}
use Rattle.hash_words.proofs.BitLemmas.{bit_at-shr, bit_at-low}

module _ (a k x j : ℕ) (x_in : x < 2 ^ (a + k)) where
  rotated_below : j < k → bit_at (rotl (a + k) x k) j ≡ bit_at x (j + a)
  rotated_below below = rw (rotl_split a k x) (bit_at_cat_low (x % 2 ^ a) k (x / 2 ^ a) j below ∙ bit_at-shr x a j)

  rotated_above : k ≤ j → j < a + k → bit_at (rotl (a + k) x k) j ≡ bit_at x (j - k)
  rotated_above above within =
      let high_in : x / 2 ^ a < 2 ^ k = shr_below x k a (rw (add_comm k a) x_in) in
      rw (rotl_split a k x) (bit_at_cat_high (x % 2 ^ a) k (x / 2 ^ a) j high_in above ∙ bit_at-low x a (j - k) (omega arith))

-- the bit at j of a word of 64 bits that is rotated by k comes from the place a further, where a is the rest of the width
pub bit_at-rotl : (a k x j : ℕ) → a + k ≡ 64 → 0 < a → x < 2 ^ 64 → j < 64 → bit_at (rotl 64 x k) j ≡ bit_at x ((j + a) % 64)
bit_at-rotl a k x j width some x_in j_in = grind (arith, nat_tests, common_steps, cases_lt, rotated_below, rotated_above)

-- ---- two rotations folded on

pub turned-lt : (k l x : ℕ) → k ≤ 64 → l ≤ 64 → x < 2 ^ 64 → turned k l x < 2 ^ 64
turned-lt k l x k_in l_in x_in =
    xor_lt 64 (bit_xor x (rotl 64 x k)) (rotl 64 x l) (xor_lt 64 x (rotl 64 x k) x_in (rotl-lt 64 x k k_in x_in)) (rotl-lt 64 x l l_in x_in)

module _ (a k b l : ℕ) (first : a + k ≡ 64) (second : b + l ≡ 64) (a_some : 0 < a) (b_some : 0 < b) where
  pub bit_at-turned : (x j : ℕ) → x < 2 ^ 64 → j < 64
      → bit_at (turned k l x) j ≡ (bit_at x j + bit_at x ((j + a) % 64) + bit_at x ((j + b) % 64)) % 2
  bit_at-turned x j x_in j_in =
      rw (
        bit_at_xor (bit_xor x (rotl 64 x k)) (rotl 64 x l) j,
        bit_at_xor x (rotl 64 x k) j,
        bit_at-rotl a k x j first a_some x_in j_in,
        bit_at-rotl b l x j second b_some x_in j_in,
      ) (omega arith)

  -- the same twice: what is folded on once by each of the two falls out
  module _ (x j : ℕ) (x_in : x < 2 ^ 64) (j_in : j < 64) where
    y : ℕ
    y = turned k l x

    y_in : y < 2 ^ 64
    unfolding y
    y_in = turned-lt k l x (omega arith) (omega arith) x_in

    pub bit_at-turned_twice : bit_at (turned k l (turned k l x)) j
        ≡ (bit_at x j + bit_at x ((j + (a + a) % 64) % 64) + bit_at x ((j + (b + b) % 64) % 64)) % 2
    unfolding y
    bit_at-turned_twice =
        let at_a : ((j + a) % 64 + a) % 64 ≡ (j + (a + a) % 64) % 64 = omega arith in
        let at_b : ((j + b) % 64 + b) % 64 ≡ (j + (b + b) % 64) % 64 = omega arith in
        let both : ((j + b) % 64 + a) % 64 ≡ ((j + a) % 64 + b) % 64 = omega arith in
        search (rules, bit_at-turned, y, y_in)

-- that is two other rotations
pub turned-square : (a k b l a' k' b' l' x : ℕ) → a + k ≡ 64 → b + l ≡ 64 → 0 < a → 0 < b
    → a' + k' ≡ 64 → b' + l' ≡ 64 → 0 < a' → 0 < b' → (a + a) % 64 ≡ a' → (b + b) % 64 ≡ b'
    → x < 2 ^ 64 → turned k l (turned k l x) ≡ turned k' l' x
turned-square a k b l a' k' b' l' x first second a_some b_some third fourth a_some' b_some' twice_a twice_b x_in =
    same_from_bits_below 64 (turned k l (turned k l x)) (turned k' l' x)
    (turned-lt k l (turned k l x) (omega arith) (omega arith) (turned-lt k l x (omega arith) (omega arith) x_in))
    (turned-lt k' l' x (omega arith) (omega arith) x_in)
    (λ j j_in.
    rw (twice_a, twice_b) at (bit_at-turned_twice a k b l first second a_some b_some x j x_in j_in)
    ∙ sym (bit_at-turned a' k' b' l' third fourth a_some' b_some' x j x_in j_in))

-- by 49 and 24 twice is by 34 and 48, that twice by 4 and 32, and that twice one rotation by 8
pub by_two : (x : ℕ) → x < 2 ^ 64 → turned 49 24 (turned 49 24 x) ≡ turned 34 48 x
by_two x x_in = turned-square 15 49 40 24 30 34 16 48 x refl refl (lit< tt) (lit< tt) refl refl (lit< tt) (lit< tt) refl refl x_in

pub by_four : (x : ℕ) → x < 2 ^ 64 → turned 34 48 (turned 34 48 x) ≡ turned 4 32 x
by_four x x_in = turned-square 30 34 16 48 60 4 32 32 x refl refl (lit< tt) (lit< tt) refl refl (lit< tt) (lit< tt) refl refl x_in

pub by_eight : (x : ℕ) → x < 2 ^ 64 → turned 4 32 (turned 4 32 x) ≡ rotl 64 x 8
by_eight x x_in =
    same_from_bits_below 64 (turned 4 32 (turned 4 32 x)) (rotl 64 x 8)
    (turned-lt 4 32 (turned 4 32 x) (lit≤ tt) (lit≤ tt) (turned-lt 4 32 x (lit≤ tt) (lit≤ tt) x_in)) (rotl-lt 64 x 8 (lit≤ tt) x_in)
    (λ j j_in.
    let left = bit_at-turned_twice 60 4 32 32 refl refl (lit< tt) (lit< tt) x j x_in j_in in
    let right = bit_at-rotl 56 8 x j refl (lit< tt) x_in j_in in
    let here : (j + 0) % 64 ≡ j = omega arith in
    let same = ap (bit_at x) here in
    let bound = bit_at-lt x ((j + 56) % 64) in
    omega (arith, left, right, same, bound))

-- so each of them is undone by three more, and by that rotation back
pub of_turns : UndoesWords 64 (turned 49 24) (λ x. rotl 64 (turned 4 32 (turned 34 48 (turned 49 24 x))) 56)
of_turns =
    rooted (λ x. turned-lt 49 24 x (lit≤ tt) (lit≤ tt)) by_two (rooted (λ x. turned-lt 34 48 x (lit≤ tt) (lit≤ tt)) by_four
    (rooted (λ x. turned-lt 4 32 x (lit≤ tt) (lit≤ tt)) by_eight (rotated 64 8 (lit≤ tt))))
