-- The test of Lucas and Lehmer: where the power 2 ^ k of 2 + √3 is -1 modulo m, and the next 1, a divisor of m above 2 has a square of at least 2 * 2 ^ k.
use Rattle.std.proofs.lemmas.Bool.Decides.{nat_tests}
use Rattle.hash_keyed.proofs.Common.{◌≡◌, ◌≢◌, ℕ, suc, ◌+◌, ◌-◌, ◌*◌, ◌%◌, ◌^◌, ◌<◌, ◌≤◌, refl, sym, ap, ◌∙◌, mod-lt, arith, ap₂, pow-succ', mod-mod_of_dvd, mul-add-lt, same_from_place, dvd_of_mod-eq-zero, mod-eq_of_lt, common_steps}
use Rattle.hash_keyed.proofs.Orbits.{states_of_orbit}
use Rattle.hash_keyed.proofs.Powers.{same-add, same-re, same-im, re, im, re-add, im-add, squares, power-from_squares}

-- modulo a divisor of m that is above 2, m - 1 is not 1
not_one : (m q : ℕ) → 0 < m → 2 < q → m % q ≡ 0 → (m - 1) % q ≢ 1 % q
not_one m q some more divides one = grind (arith, nat_tests, common_steps, same-add q (m - 1) 1 1 1 one refl, mod-eq_of_lt more)

-- the power n of 2 + √3 modulo q, as one number
code : ℕ → ℕ → ℕ
code q n = re n % q * q + im n % q

module _ (q : ℕ) (some : 0 < q) where
  code-lt : (n : ℕ) → code q n < q * q
  unfolding code
  code-lt n = mul-add-lt (re n % q) q (im n % q) q (mod-lt (re n) some) (mod-lt (im n) some)

  code-parts : (i j : ℕ) → code q i ≡ code q j → (re i % q ≡ re j % q) × (im i % q ≡ im j % q)
  unfolding code
  code-parts i j same = same_from_place (re i % q) (im i % q) (re j % q) (im j % q) q (mod-lt (im i) some) (mod-lt (im j) some) same

  code-same : (i j : ℕ) → re i % q ≡ re j % q → im i % q ≡ im j % q → code q i ≡ code q j
  unfolding code
  code-same i j p r = ap₂ (λ x y. x * q + y) p r

  code-shift : (i j k : ℕ) → code q i ≡ code q j → code q (i + k) ≡ code q (j + k)
  code-shift i j k same =
      let parts = code-parts i j same in
      grind (arith, nat_tests, common_steps, same-re, re, im, same-im, code-same, re-add, im-add)

-- what is known modulo m is known modulo its divisor
down : (m q x y : ℕ) → m % q ≡ 0 → x % m ≡ y → x % q ≡ y % q
down m q x y divides same = sym (mod-mod_of_dvd q x (dvd_of_mod-eq-zero q divides)) ∙ ap (λ z. z % q) same

re-zero : re 0 ≡ 1
unfolding re
re-zero = refl

im-zero : im 0 ≡ 0
unfolding re
im-zero = refl

module _ (m k : ℕ) (half : squares m k (re 1 % m) (im 1 % m) ≡ (m - 1, 0)) (whole : squares m (suc k) (re 1 % m) (im 1 % m) ≡ (1, 0))
    (q : ℕ) (some : 0 < m) (more : 2 < q) (divides : m % q ≡ 0) where
  back : code q (2 * 2 ^ k) ≡ code q 0
  back =
      let n = 2 ^ suc k in
      let at_whole = power-from_squares m (suc k) 1 0 whole in
      let real = down m q (re n) 1 divides at_whole.0 ∙ ap (λ x. x % q) (sym re-zero) in
      let imag = down m q (im n) 0 divides at_whole.1 ∙ ap (λ x. x % q) (sym im-zero) in
      ap (code q) (sym (pow-succ' 2 k)) ∙ code-same q (omega arith) n 0 real imag

  away : code q (2 ^ k) ≢ code q 0
  away same =
      let at_half = (power-from_squares m k (m - 1) 0 half).0 in
      let real = (code-parts q (omega arith) (2 ^ k) 0 same).0 in
      not_one m q some more divides (sym (down m q (re (2 ^ k)) (m - 1) divides at_half) ∙ real ∙ ap (λ x. x % q) re-zero)

  pub square_of_divisor : 2 * 2 ^ k ≤ q * q
  square_of_divisor =
      let q_some : 0 < q = omega arith in
      states_of_orbit (code q) (code-shift q q_some) (2 ^ k) back away k (q * q) refl (code-lt q q_some)
