-- Numbers by their bits, and the shuffle.
use Rattle.hash_rounds.proofs.Common.{◌≡◌, ℕ, zero, suc, ◌+◌, ◌-◌, ◌*◌, ◌/◌, ◌%◌, ◌^◌, ◌<◌, ◌≤◌, Bool, true, false, nat_lt, nat_le, ◌==◌, ◌&&◌, min, IsTrue, bit_and, bit_xor, refl, sym, ◌∙◌, ap, add-zero, arith, inl, inr, bit_at, cases_lt, and_parts, nat_tests, shr_below, pow_pos, mul-add-lt, swap_halves, from_bits, shuffle_from, shuffle_to, shuffle, unshuffle, exchanged}
use Rattle.std.proofs.Common.{pow-suc}
use Rattle.std.proofs.lemmas.Nat.Bits.{bit_at-lt, bit_at-zero, bit_at_lowest, bit_at_and, bit_at_xor, bit_at_cat_low, bit_at_cat_high, same_from_bits_below}
use Rattle.hash_words.proofs.BitLemmas.{bit_at-shr, bit_at-low}

-- ---- a number by its bits

module _ (f : ℕ → ℕ) (bits : (j : ℕ) → f j < 2) where
  from_bits-lt : (n : ℕ) → from_bits f n < 2 ^ n
  unfolding from_bits
  from_bits-lt zero = omega arith
  from_bits-lt (suc n) =
      let low = from_bits-lt n in
      rw (pow-suc 2 n) (mul-add-lt (f n) (2 ^ n) (from_bits f n) 2 (bits n) low)

  bit_at-from_bits : (n j : ℕ) → j < n → bit_at (from_bits f n) j ≡ f j
  unfolding from_bits
  bit_at-from_bits zero j j_in = absurd (omega arith)
  bit_at-from_bits (suc n) j j_in = elim (cases_lt j n) [
    | inl below ↦ bit_at_cat_low (f n) n (from_bits f n) j below ∙ bit_at-from_bits n j below
    | inr above ↦
        let last : j ≡ n = omega arith in
        let none : n - n ≡ 0 = omega arith in
        let small = bits n in
        let same : f n % 2 ≡ f n = omega arith in
        rw last (bit_at_cat_high (f n) n (from_bits f n) n (from_bits-lt n) (omega arith) ∙ rw (none, bit_at_lowest (f n)) same)
  ]

pub shuffle-lt : (x : ℕ) → shuffle x < 2 ^ 64
shuffle-lt x = from_bits-lt (λ j. bit_at x (shuffle_from j)) (λ j. bit_at-lt x (shuffle_from j)) 64

-- a word with these bits is this word
is_from_bits : (f : ℕ → ℕ) (n y : ℕ) → ((j : ℕ) → f j < 2) → y < 2 ^ n → ((j : ℕ) → j < n → bit_at y j ≡ f j) → y ≡ from_bits f n
is_from_bits f n y bits y_in same =
    same_from_bits_below n y (from_bits f n) y_in (from_bits-lt f bits n) (λ j j_in. same j j_in ∙ sym (bit_at-from_bits f bits n j j_in))

-- ---- bits moved

bit_at-shl_below : (n k j : ℕ) → j < k → bit_at (n * 2 ^ k) j ≡ 0
bit_at-shl_below n k j below =
    ap (λ m. bit_at m j) (sym (add-zero (n * 2 ^ k))) ∙ bit_at_cat_low n k 0 j below ∙ bit_at-zero j

bit_at-shl_above : (n k j : ℕ) → k ≤ j → bit_at (n * 2 ^ k) j ≡ bit_at n (j - k)
bit_at-shl_above n k j above =
    ap (λ m. bit_at m j) (sym (add-zero (n * 2 ^ k))) ∙ bit_at_cat_high n k 0 j (pow_pos k) above

module _ (x mask k : ℕ) (apart : bit_and mask (mask * 2 ^ k) ≡ 0) where
  moved : ℕ
  moved = bit_and (bit_xor x (x / 2 ^ k)) mask

  moved_at : (j : ℕ) → bit_at moved j ≡ min ((bit_at x j + bit_at x (j + k)) % 2) (bit_at mask j)
  unfolding moved
  moved_at j = rw (bit_at_and (bit_xor x (x / 2 ^ k)) mask j, bit_at_xor x (x / 2 ^ k) j, bit_at-shr x k j) refl

  -- no bit of the mask has another k above it
  only : (j : ℕ) → min (bit_at mask j) (bit_at (mask * 2 ^ k) j) ≡ 0
  only j = sym (bit_at_and mask (mask * 2 ^ k) j) ∙ ap (λ n. bit_at n j) apart ∙ bit_at-zero j

  -- what stays or comes from above, and what comes from below
  parts : (j : ℕ) → j < 64 → bit_at (bit_xor (bit_xor x moved) (moved * 2 ^ k % 2 ^ 64)) j
      ≡ ((bit_at x j + min ((bit_at x j + bit_at x (j + k)) % 2) (bit_at mask j)) % 2 + bit_at (moved * 2 ^ k) j) % 2
  parts j j_in =
      rw (bit_at_xor (bit_xor x moved) (moved * 2 ^ k % 2 ^ 64) j, bit_at_xor x moved j, moved_at j, bit_at-low (moved * 2 ^ k) 64 j j_in)
      refl

  exchange_below : (j : ℕ) → j < 64 → j < k → bit_at (bit_xor (bit_xor x moved) (moved * 2 ^ k % 2 ^ 64)) j ≡ bit_at x (exchanged mask k j)
  exchange_below j j_in below =
      let a_in = bit_at-lt x j in
      let b_in = bit_at-lt x (j + k) in
      let m_in = bit_at-lt mask j in
      let test : nat_le k j ≡ false = grind (arith, nat_tests) in
      elim (cases_lt (bit_at mask j) 1) [
        | inl clear ↦
            let e : bit_at mask j ≡ 0 = omega arith in
            rw (parts j j_in, bit_at-shl_below moved k j below, e, test) (omega arith)
        | inr set ↦
            let e : bit_at mask j ≡ 1 = omega arith in
            rw (parts j j_in, bit_at-shl_below moved k j below, e) (omega arith)
      ]

  exchange_above : (j : ℕ) → j < 64 → k ≤ j → bit_at (bit_xor (bit_xor x moved) (moved * 2 ^ k % 2 ^ 64)) j ≡ bit_at x (exchanged mask k j)
  exchange_above j j_in above =
      let a_in = bit_at-lt x j in
      let b_in = bit_at-lt x (j + k) in
      let c_in = bit_at-lt x (j - k) in
      let m_in = bit_at-lt mask j in
      let n_in = bit_at-lt mask (j - k) in
      let back : j - k + k ≡ j = omega arith in
      let test : nat_le k j ≡ true = grind (arith, nat_tests) in
      let one = rw (bit_at-shl_above mask k j above) at (only j) in
      elim (cases_lt (bit_at mask j) 1) [
        | inl clear ↦
            let e : bit_at mask j ≡ 0 = omega arith in
            elim (cases_lt (bit_at mask (j - k)) 1) [
              | inl none ↦
                  let e' : bit_at mask (j - k) ≡ 0 = omega arith in
                  rw (parts j j_in, bit_at-shl_above moved k j above, moved_at (j - k), back, e, e', test) (omega arith)
              | inr from ↦
                  let e' : bit_at mask (j - k) ≡ 1 = omega arith in
                  rw (parts j j_in, bit_at-shl_above moved k j above, moved_at (j - k), back, e, e', test) (omega arith)
            ]
        | inr set ↦
            let e : bit_at mask j ≡ 1 = omega arith in
            let e' : bit_at mask (j - k) ≡ 0 = omega arith in
            rw (parts j j_in, bit_at-shl_above moved k j above, moved_at (j - k), back, e, e') (omega arith)
      ]

  pub bit_at-exchange : (j : ℕ) → j < 64
      → bit_at (bit_xor (bit_xor x (bit_and (bit_xor x (x / 2 ^ k)) mask)) (bit_and (bit_xor x (x / 2 ^ k)) mask * 2 ^ k % 2 ^ 64)) j
      ≡ bit_at x (exchanged mask k j)
  unfolding moved
  bit_at-exchange j j_in = elim (cases_lt j k) [
    | inl below ↦ exchange_below j j_in below
    | inr above ↦ exchange_above j j_in above
  ]

-- ---- the halves

pub bit_at-swap_halves : (x j : ℕ) → x < 2 ^ 64 → j < 64 → bit_at (swap_halves x) j ≡ bit_at x ((j + 32) % 64)
bit_at-swap_halves x j x_in j_in =
    let high_in : x / 2 ^ 32 < 2 ^ 32 = shr_below x 32 32 x_in in
    elim (cases_lt j 32) [
      | inl below ↦
          let place : (j + 32) % 64 ≡ j + 32 = omega arith in
          rw place (bit_at_cat_low (x % 2 ^ 32) 32 (x / 2 ^ 32) j below ∙ bit_at-shr x 32 j)
      | inr above ↦
          let place : (j + 32) % 64 ≡ j - 32 = omega arith in
          rw place (bit_at_cat_high (x % 2 ^ 32) 32 (x / 2 ^ 32) j high_in above ∙ bit_at-low x 32 (j - 32) (omega arith))
    ]

-- ---- the shuffle, place by place

-- a test of each place below n
below : (ℕ → Bool) → ℕ → Bool
below test zero = true
below test (suc n) = test n && below test n

at_below : (test : ℕ → Bool) (n j : ℕ) → IsTrue (below test n) → j < n → IsTrue (test j)
unfolding below
at_below test zero j all j_in = absurd (omega arith)
at_below test (suc n) j all j_in =
    let parts = and_parts (test n) (below test n) all in
    elim (cases_lt j n) [
      | inl before ↦ at_below test n j parts.1 before
      | inr last ↦ let e : j ≡ n = omega arith in rw e parts.0
    ]

-- where the bits of a word come from in the four exchanges, and in that of the halves
e8 : ℕ → ℕ
e8 j = exchanged 0x0000_ff00_0000_ff00 8 j

e4 : ℕ → ℕ
e4 j = exchanged 0x00f0_00f0_00f0_00f0 4 j

e2 : ℕ → ℕ
e2 j = exchanged 0x0c0c_0c0c_0c0c_0c0c 2 j

e1 : ℕ → ℕ
e1 j = exchanged 0x2222_2222_2222_2222 1 j

h : ℕ → ℕ
h j = (j + 32) % 64

stays : (f : ℕ → ℕ) → IsTrue (below (λ j. nat_lt (f j) 64) 64) → (j : ℕ) → j < 64 → f j < 64
stays f all j j_in = let here = at_below (λ j. nat_lt (f j) 64) 64 j all j_in in grind (arith, nat_tests)

agree : (f g : ℕ → ℕ) → IsTrue (below (λ j. f j == g j) 64) → (j : ℕ) → j < 64 → f j ≡ g j
agree f g all j j_in = let here = at_below (λ j. f j == g j) 64 j all j_in in grind (arith, nat_tests)

shuffle_from-lt : (j : ℕ) → j < 64 → shuffle_from j < 64
unfolding below
shuffle_from-lt = stays shuffle_from refl

shuffle_to-lt : (j : ℕ) → j < 64 → shuffle_to j < 64
unfolding below
shuffle_to-lt = stays shuffle_to refl

forth : (j : ℕ) → j < 64 → h (e8 (e4 (e2 (e1 j)))) ≡ shuffle_from j
unfolding below e1 e2 e4 e8 h
forth = agree (λ j. h (e8 (e4 (e2 (e1 j))))) shuffle_from refl

back : (j : ℕ) → j < 64 → e1 (e2 (e4 (e8 (h j)))) ≡ shuffle_to j
unfolding below e1 e2 e4 e8 h
back = agree (λ j. e1 (e2 (e4 (e8 (h j))))) shuffle_to refl

from_to : (j : ℕ) → j < 64 → shuffle_from (shuffle_to j) ≡ j
unfolding below
from_to = agree (λ j. shuffle_from (shuffle_to j)) (λ j. j) refl

to_from : (j : ℕ) → j < 64 → shuffle_to (shuffle_from j) ≡ j
unfolding below
to_from = agree (λ j. shuffle_to (shuffle_from j)) (λ j. j) refl

-- the word y has at each place the bit of x at f
unfoldable pub IsMoved : (ℕ → ℕ) → ℕ → ℕ → Type 0
IsMoved f x y = (j : ℕ) → j < 64 → bit_at y j ≡ bit_at x (f j)

-- moved twice
moved_then : (f g : ℕ → ℕ) (x y z : ℕ) → IsTrue (below (λ j. nat_lt (g j) 64) 64) → IsMoved f x y → IsMoved g y z
    → IsMoved (λ j. f (g j)) x z
unfolding IsMoved
moved_then f g x y z stay first second j j_in = second j j_in ∙ first (g j) (stays g stay j j_in)

-- ---- the calls

moved_halves : (x y : ℕ) → x < 2 ^ 64 → y ≡ swap_halves x → IsMoved h x y
unfolding IsMoved h
moved_halves x y x_in halves j j_in = ap (λ n. bit_at n j) halves ∙ bit_at-swap_halves x j x_in j_in

pub shuffle_by : (x a b c d r : ℕ) → x < 2 ^ 64 → r < 2 ^ 64
    → a ≡ swap_halves x → IsMoved (exchanged 0x0000_ff00_0000_ff00 8) a b → IsMoved (exchanged 0x00f0_00f0_00f0_00f0 4) b c
    → IsMoved (exchanged 0x0c0c_0c0c_0c0c_0c0c 2) c d → IsMoved (exchanged 0x2222_2222_2222_2222 1) d r
    → r ≡ shuffle x
unfolding IsMoved below e1 e2 e4 e8 h
shuffle_by x a b c d r x_in r_in halves bytes nibbles pairs bits =
    let to_b = moved_then h e8 x a b refl (moved_halves x a x_in halves) bytes in
    let to_c = moved_then _ e4 x b c refl to_b nibbles in
    let to_d = moved_then _ e2 x c d refl to_c pairs in
    let to_r = moved_then _ e1 x d r refl to_d bits in
    is_from_bits (λ j. bit_at x (shuffle_from j)) 64 r (λ j. bit_at-lt x (shuffle_from j)) r_in
    (λ j j_in. to_r j j_in ∙ ap (bit_at x) (forth j j_in))

pub unshuffle_by : (x a b c d r : ℕ) → d < 2 ^ 64 → r < 2 ^ 64
    → IsMoved (exchanged 0x2222_2222_2222_2222 1) x a → IsMoved (exchanged 0x0c0c_0c0c_0c0c_0c0c 2) a b
    → IsMoved (exchanged 0x00f0_00f0_00f0_00f0 4) b c → IsMoved (exchanged 0x0000_ff00_0000_ff00 8) c d → r ≡ swap_halves d
    → r ≡ unshuffle x
unfolding IsMoved below e1 e2 e4 e8 h
unshuffle_by x a b c d r d_in r_in bits pairs nibbles bytes halves =
    let to_b = moved_then e1 e2 x a b refl bits pairs in
    let to_c = moved_then _ e4 x b c refl to_b nibbles in
    let to_d = moved_then _ e8 x c d refl to_c bytes in
    let to_r = moved_then _ h x d r refl to_d (moved_halves d r d_in halves) in
    is_from_bits (λ j. bit_at x (shuffle_to j)) 64 r (λ j. bit_at-lt x (shuffle_to j)) r_in
    (λ j j_in. to_r j j_in ∙ ap (bit_at x) (back j j_in))

pub unshuffle-shuffle : (x : ℕ) → x < 2 ^ 64 → unshuffle (shuffle x) ≡ x
unshuffle-shuffle x x_in =
    sym (is_from_bits (λ j. bit_at (shuffle x) (shuffle_to j)) 64 x (λ j. bit_at-lt (shuffle x) (shuffle_to j)) x_in (λ j j_in.
    sym (bit_at-from_bits (λ i. bit_at x (shuffle_from i)) (λ i. bit_at-lt x (shuffle_from i)) 64 (shuffle_to j) (shuffle_to-lt j j_in)
    ∙ ap (bit_at x) (from_to j j_in))))

pub shuffle-unshuffle : (x : ℕ) → x < 2 ^ 64 → shuffle (unshuffle x) ≡ x
shuffle-unshuffle x x_in =
    sym (is_from_bits (λ j. bit_at (unshuffle x) (shuffle_from j)) 64 x (λ j. bit_at-lt (unshuffle x) (shuffle_from j)) x_in (λ j j_in.
    sym (bit_at-from_bits (λ i. bit_at x (shuffle_to i)) (λ i. bit_at-lt x (shuffle_to i)) 64 (shuffle_from j) (shuffle_from-lt j j_in)
    ∙ ap (bit_at x) (to_from j j_in))))
