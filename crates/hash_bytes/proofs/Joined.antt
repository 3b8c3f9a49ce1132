-- The sums of a joined text, from those of its parts.
use Rattle.hash_bytes.proofs.Common.{ℕ, zero, suc, ◌≡◌, ◌+◌, ◌*◌, ◌/◌, ◌-◌, ◌%◌, ◌^◌, ◌≤◌, List, ◌++◌, length, ap, sym, ◌∙◌, refl, arith, pow-zero, pow-suc, add-mod-mod, mod-add-mod, mul-add-mod_self_left, div-add-mod, pow-mod, pow-add, mul-mod, mul-mod_first, digit_sum, sdbm_from, loselose_from, passthrough_from, sdbm_sums, loselose-append, loselose-add, passthrough_sums}

-- a number by itself, and behind a number: for each base and modulus
module _ (x m : ℕ) where
  behind : (front : ℕ) (t : List ℕ) → (front + digit_sum x t) % m ≡ (front + (0 * x ^ length t + digit_sum x t) % m) % m
  behind front t =
      let alone : 0 * x ^ length t + digit_sum x t ≡ digit_sum x t = omega arith in
      sym (add-mod-mod front (digit_sum x t) m) ∙ ap (λ n. (front + n % m) % m) (sym alone)

pub sdbm_joined : (x y : List ℕ) → sdbm_from 0 (x ++ y) ≡ (sdbm_from 0 x * 65599 ^ length y + sdbm_from 0 y) % 2 ^ 32
unfolding sdbm_from
sdbm_joined x y = sym (sdbm_sums.joined 0 x y) ∙ behind 65599 (2 ^ 32) (sdbm_from 0 x * 65599 ^ length y) y

pub passthrough_joined : (x y : List ℕ) → passthrough_from 0 (x ++ y)
    ≡ (passthrough_from 0 x * 256 ^ length y + passthrough_from 0 y) % 2 ^ 64
unfolding passthrough_from
passthrough_joined x y = sym (passthrough_sums.joined 0 x y) ∙ behind 256 (2 ^ 64) (passthrough_from 0 x * 256 ^ length y) y

pub loselose_joined : (x y : List ℕ) → loselose_from 0 (x ++ y) ≡ (loselose_from 0 x + loselose_from 0 y) % 2 ^ 64
loselose_joined x y = sym (loselose-append 0 x y) ∙ sym (loselose-add (loselose_from 0 x) y)

-- powers of powers
module _ (a b : ℕ) where
  pow_pow : (c : ℕ) → (a ^ b) ^ c ≡ a ^ (b * c)
  pow_pow zero = let none : 0 ≡ b * 0 = omega arith in pow-zero (a ^ b) ∙ sym (pow-zero a) ∙ ap (λ n. a ^ n) none
  pow_pow (suc c) =
      let more : b * suc c ≡ b * c + b = omega arith in
      pow-suc (a ^ b) c ∙ ap (λ n. n * a ^ b) (pow_pow c) ∙ sym (pow-add a (b * c) b) ∙ ap (λ n. a ^ n) (sym more)

one_pow : (c : ℕ) → 1 ^ c ≡ 1
one_pow zero = pow-zero 1
one_pow (suc c) = pow-suc 1 c ∙ ap (λ n. n * 1) (one_pow c)

-- where a power is 1 modulo m, the exponent counts modulo that power's
module _ (a m period : ℕ) (one : a ^ period % m ≡ 1 % m) where
  whole_periods : (q : ℕ) → a ^ (period * q) % m ≡ 1 % m
  whole_periods q = ap (λ n. n % m) (sym (pow_pow a period q)) ∙ sym (pow-mod (a ^ period) q m) ∙ ap (λ n. n ^ q % m) one ∙ pow-mod 1 q m
      ∙ ap (λ n. n % m) (one_pow q)

  pow_by_period : (n : ℕ) → a ^ (n % period) % m ≡ a ^ n % m
  pow_by_period n =
      let q = n / period in
      let r = n % period in
      let once : a ^ r ≡ 1 * a ^ r = omega arith in
      ap (λ k. k % m) once ∙ sym (mul-mod_first 1 (a ^ r) m) ∙ ap (λ k. (k * a ^ r) % m) (sym (whole_periods q))
      ∙ mul-mod_first (a ^ (period * q)) (a ^ r) m
      ∙ ap (λ k. k % m) (sym (pow-add a (period * q) r)) ∙ ap (λ k. a ^ k % m) (div-add-mod n period)

-- a long power by short ones
by_halves : (a m u v : ℕ) → a ^ (u * v) % m ≡ (a ^ u % m) ^ v % m
by_halves a m u v = ap (λ n. n % m) (sym (pow_pow a u v)) ∙ sym (pow-mod (a ^ u) v m)

by_quarters : (a m u : ℕ) → (((a ^ u % m) ^ u % m) ^ u % m) ^ u % m ≡ 1 % m → (n : ℕ) → a ^ (n % (u * u * (u * u))) % m ≡ a ^ n % m
by_quarters a m u one = pow_by_period a m (u * u * (u * u))
    (by_halves a m (u * u) (u * u) ∙ ap (λ k. k ^ (u * u) % m) (by_halves a m u u) ∙ by_halves ((a ^ u % m) ^ u % m) m u u ∙ one)

-- 65599 to the power 2^32 is 1 modulo 2^32, so of an exponent 32 bits are enough
pub power_of_low_bits : (n : ℕ) → 65599 ^ (n % 2 ^ 32) % 2 ^ 32 ≡ 65599 ^ n % 2 ^ 32
power_of_low_bits = by_quarters 65599 (2 ^ 32) 256 refl

-- the first hash a power further, and the second
pub sdbm_moved : (h k n p : ℕ) → p ≡ 65599 ^ (n % 2 ^ 32) % 2 ^ 32
    → (h % 2 ^ 32 * p % 2 ^ 32 + k % 2 ^ 32) % 2 ^ 32 ≡ (h * 65599 ^ n + k) % 2 ^ 32
sdbm_moved h k n p is =
    let m = 2 ^ 32 in
    let first : h % m * p % m ≡ h * 65599 ^ n % m = ap (λ q. h % m * q % m) (is ∙ power_of_low_bits n) ∙ sym (mul-mod h (65599 ^ n) m) in
    ap (λ q. (q + k % m) % m) first ∙ mod-add-mod (h * 65599 ^ n) m (k % m) ∙ add-mod-mod (h * 65599 ^ n) k m

pub passthrough_moved : (h k n : ℕ) → (h * 2 ^ (8 * n) % 2 ^ 64 + k) % 2 ^ 64 ≡ (h * 256 ^ n + k) % 2 ^ 64
passthrough_moved h k n = ap (λ q. (h * q % 2 ^ 64 + k) % 2 ^ 64) (sym (pow_pow 2 8 n)) ∙ mod-add-mod (h * 256 ^ n) (2 ^ 64) k

-- behind eight bytes and more nothing is left of the first hash
pub passthrough_gone : (h k n : ℕ) → 8 ≤ n → k % 2 ^ 64 ≡ (h * 256 ^ n + k) % 2 ^ 64
passthrough_gone h k n many =
    let more = 256 ^ (n - 8) in
    let parts : 256 ^ n ≡ 2 ^ 64 * more = ap (λ q. 256 ^ q) (let e : n ≡ 8 + (n - 8) = omega arith in e) ∙ pow-add 256 8 (n - 8) in
    let moved : 2 ^ 64 * (h * more) + k ≡ h * (2 ^ 64 * more) + k = omega arith in
    sym (mul-add-mod_self_left (2 ^ 64) (h * more) k) ∙ ap (λ q. q % 2 ^ 64) moved ∙ ap (λ q. (h * q + k) % 2 ^ 64) (sym parts)
