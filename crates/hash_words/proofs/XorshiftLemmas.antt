-- A word with a shift of itself folded on, and how that is undone.
use Rattle.hash_words.proofs.Common.{◌≡◌, ℕ, ◌+◌, ◌*◌, ◌/◌, ◌^◌, ◌<◌, ◌≤◌, bit_xor, refl, ◌∙◌, ap, lit<, add_comm, arith, xor_assoc, xor_self, xor_zero_l, xor_zero_r, div-eq_of_lt, pow-le-pow_right, mul_comm, xor_shr, shr-shr, xor_comm, xor_lt, shr_le, xorshift}

xor_swap : (a b c d : ℕ) → bit_xor (bit_xor a b) (bit_xor c d) ≡ bit_xor (bit_xor a c) (bit_xor b d)
xor_swap a b c d =
    rw (xor_assoc a b (bit_xor c d), ← xor_assoc b c d, xor_comm b c, xor_assoc c b d, ← xor_assoc a c (bit_xor b d)) refl

xor_left : (a b : ℕ) → bit_xor a (bit_xor a b) ≡ b
xor_left a b = rw (← xor_assoc a a b, xor_self a) (xor_zero_l b)

-- two shifts by k are one by twice as much
xorshift-twice : (x k : ℕ) → xorshift (xorshift x k) k ≡ xorshift x (2 * k)
xorshift-twice x k =
    let double : k + k ≡ 2 * k = omega arith in
    rw (
      xor_shr x (x / 2 ^ k) k,
      xor_assoc x (x / 2 ^ k) (bit_xor (x / 2 ^ k) (x / 2 ^ k / 2 ^ k)),
      xor_left (x / 2 ^ k)
          (x / 2 ^ k / 2 ^ k),
      shr-shr x k k,
      double,
    ) refl

pub xorshift-swap : (x j k : ℕ) → xorshift (xorshift x j) k ≡ xorshift (xorshift x k) j
xorshift-swap x j k =
    rw (
      xor_shr x (x / 2 ^ j) k,
      xor_shr x (x / 2 ^ k) j,
      xor_swap x (x / 2 ^ j) (x / 2 ^ k) (x / 2 ^ j / 2 ^ k),
      shr-shr x j k,
      shr-shr x
          k j,
      add_comm j k,
    ) refl

pub xorshift-past : (w x k : ℕ) → x < 2 ^ w → w ≤ k → xorshift x k ≡ x
xorshift-past w x k x_in past =
    let none : x / 2 ^ k ≡ 0 = div-eq_of_lt (omega (arith, x_in, pow-le-pow_right {n = 2} (lit< tt) {i = w} {j = k} past)) in
    rw none (xor_zero_r x)

-- the step of the loop that undoes a shift: y is on the way from x
pub xorshift-more : (x y j k : ℕ) → xorshift y k ≡ xorshift x j → xorshift (xorshift y j) k ≡ xorshift x (j * 2)
xorshift-more x y j k so_far =
    xorshift-swap y j k ∙ ap (λ n. xorshift n j) so_far ∙ xorshift-twice x j ∙ ap (xorshift x) (mul_comm 2 j)

-- a shift of a word is a word
pub xorshift-lt : (w x k : ℕ) → x < 2 ^ w → xorshift x k < 2 ^ w
xorshift-lt w x k x_in = xor_lt w x (x / 2 ^ k) x_in (omega (arith, shr_le x k, x_in))
