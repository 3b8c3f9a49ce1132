-- Laws of the sums of bytes: of no bytes, of joined texts, and byte by byte.
use Rattle.hash_rounds.proofs.Common.{◌≡◌, ℕ, suc, ◌+◌, ◌-◌, ◌*◌, ◌%◌, ◌^◌, ◌<◌, ◌≤◌, List, [], ◌∷◌, ◌++◌, length, get_or, slice_index, All, take, drop, sum, map, fold, refl, sym, ap, ◌∙◌, arith, add-zero, zero-add, length-append, length-drop, take-append-drop, pow-add, lit<, w64, from_be_bytes, All-drop, mul-mod_first, mul-add-lt}
use Rattle.std.specs.Simd.Lanes.{fold_l, zip2}
use Rattle.std.proofs.Math.Nat.{mod-add-mod, add-mod-mod, add-mul-mod_self_left, mod-lt, mod-eq_of_lt, pow-suc, pow-zero, mul-one, mul_comm}
use Rattle.std.proofs.lemmas.List.FromFn.{fill_by_all}
use Rattle.std.proofs.lemmas.List.Sums.{sum_by-append, sum_by-cons}
use Rattle.hash_rounds.specs.Sums.{digit_sum, sdbm_from, loselose_from, passthrough_from, sdbm_step, loselose_step, passthrough_step}

-- ---- digits

pub digit_sum-append : (x : ℕ) (s t : List ℕ) → digit_sum x (s ++ t) ≡ digit_sum x s * x ^ length t + digit_sum x t
digit_sum-append x [] t = omega arith
digit_sum-append x (b ∷ s) t = rw (digit_sum-append x s t, length-append s t, pow-add x (length s) (length t)) (omega arith)

-- n digits make a number below the n-th power of their base
pub digit_sum-lt : (x : ℕ) (t : List ℕ) → All (λ b. b < x) t → digit_sum x t < x ^ length t
digit_sum-lt x [] digits = simp pow-zero (lit< tt)
digit_sum-lt x (b ∷ t) digits =
    let rest = digit_sum-lt x t (λ i d i_in. digits (suc i) d (omega arith)) in
    rw (pow-suc x (length t)) (mul-add-lt b (x ^ length t) (digit_sum x t) x (digits 0 0 (omega arith)) rest)

-- the big-endian value of eight bytes
pub from_be_bytes-8 : (t : List ℕ) → length t ≡ 8 → from_be_bytes w64 t ≡ digit_sum 256 t
from_be_bytes-8 t n = rw (fill_by_all (slice_index t) t 8 0 n (λ k _. refl)) (omega arith)

-- the state after a text, of a sum below m whose step is `step`
pub record SumFacts (from : ℕ → List ℕ → ℕ) (step : ℕ → ℕ → ℕ) (m : ℕ) : Type 0 where
  pub of_nothing : (s : ℕ) → s < m → from s [] ≡ s
  pub joined : (s : ℕ) (t u : List ℕ) → from (from s t) u ≡ from s (t ++ u)
  pub of_one : (s b : ℕ) → from s (b ∷ []) ≡ step s b
  pub is_fold : (s : ℕ) (t : List ℕ) → s < m → from s t ≡ fold step s t

-- ---- a state and then digits, modulo m

mod_step : (a b k m : ℕ) → (a % m * b + k) % m ≡ (a * b + k) % m
mod_step a b k m = sym (mod-add-mod (a % m * b) m k) ∙ ap (λ n. (n + k) % m) (mul-mod_first a b m) ∙ mod-add-mod (a * b) m k

module _ (x m : ℕ) where
  -- the state s and then the digits t
  abbrev number : ℕ → List ℕ → ℕ
  number s t = (s * x ^ length t + digit_sum x t) % m

  number-nil : (s : ℕ) → s < m → number s [] ≡ s
  number-nil s s_in = simp (pow-zero, mul-one, add-zero) (mod-eq_of_lt s_in)

  number-append : (s : ℕ) (t u : List ℕ) → number (number s t) u ≡ number s (t ++ u)
  number-append s t u =
      mod_step (s * x ^ length t + digit_sum x t) (x ^ length u) (digit_sum x u) m
      ∙ ap (λ n. n % m) (rw (digit_sum-append x t u, length-append t u, pow-add x (length t) (length u)) (omega arith))

  number-one : (s b : ℕ) → number s (b ∷ []) ≡ (x * s + b) % m
  number-one s b = rw (pow-suc x 0, pow-zero x) (ap (λ n. n % m) (omega arith))

  number_push : (s : ℕ) (t : List ℕ) (b : ℕ) → (number s t * x % m + b) % m ≡ number s (t ++ b ∷ [])
  number_push s t b =
      mod-add-mod (number s t * x) m b ∙ ap (λ n. (n + b) % m) (mul_comm (number s t) x) ∙ sym (number-one (number s t) b)
      ∙ number-append s t (b ∷ [])

  number-fold : (s : ℕ) (t : List ℕ) → s < m → number s t ≡ fold (λ h b. (x * h + b) % m) s t
  number-fold s [] s_in = number-nil s s_in
  number-fold s (b ∷ t) s_in =
      sym (number-append s (b ∷ []) t) ∙ ap (λ h. number h t) (number-one s b)
      ∙ number-fold ((x * s + b) % m) t (mod-lt (x * s + b) (omega arith))

  number_sums : SumFacts number (λ h b. (x * h + b) % m) m
  number_sums = record { of_nothing = number-nil; joined = number-append; of_one = number-one; is_fold = number-fold }

-- a text of one byte is that byte
only_byte : (t : List ℕ) → 1 ≤ length t → length t < 2 → t ≡ get_or t 0 0 ∷ []
only_byte t some few = fill_by_all (slice_index t) t 1 0 (omega arith) (λ k _. refl)

-- ---- sdbm

pub sdbm_sums : SumFacts sdbm_from sdbm_step (2 ^ 32)
unfolding sdbm_from
sdbm_sums = number_sums 65599 (2 ^ 32)

-- a text of one byte
pub sdbm_of_one : (s : ℕ) (t : List ℕ) → 1 ≤ length t → length t < 2 → sdbm_from s t ≡ (65599 * s + get_or t 0 0) % 2 ^ 32
sdbm_of_one s t some few = ap (sdbm_from s) (only_byte t some few) ∙ sdbm_sums.of_one s (get_or t 0 0)

-- one byte more
pub sdbm_push : (s : ℕ) (t : List ℕ) (b : ℕ) → (sdbm_from s t * 65599 % 2 ^ 32 + b) % 2 ^ 32 ≡ sdbm_from s (t ++ b ∷ [])
unfolding sdbm_from
sdbm_push = number_push 65599 (2 ^ 32)

-- four bytes at once, in lanes, the powers of 65599 taken mod 2^32
pub sdbm_of_four : (h : ℕ) (t : List ℕ) → length t ≡ 4 →
    (h * 1139564289 % 2 ^ 32 + fold_l (λ a x. (a + x) % 2 ^ 32) 0
    (zip2 (λ x y. x * y % 2 ^ 32) (map (λ x. x) t) (780587199 ∷ 8261505 ∷ 65599 ∷ 1 ∷ []))) % 2 ^ 32
    ≡ sdbm_from h t
unfolding sdbm_from
sdbm_of_four h t n =
    let at = λ (i : ℕ). slice_index t i in
    let whole : h * 65599 ^ 4 + digit_sum 65599 (at 0 ∷ at 1 ∷ at 2 ∷ at 3 ∷ [])
    ≡ (h * 1139564289 + (0 + at 0 * 780587199 + at 1 * 8261505 + at 2 * 65599 + at 3 * 1)) + 2 ^ 32 * (h * 4311506197 + at 0 * 65725 + at 1)
    = omega arith in
    rw (fill_by_all (slice_index t) t 4 0 n (λ k _. refl))
    (simp (mod-add-mod, add-mod-mod) (sym (ap (λ n. n % 2 ^ 32) whole ∙ add-mul-mod_self_left _ _ _)))

-- ---- lose lose

pub loselose-nil : (s : ℕ) → s < 2 ^ 64 → loselose_from s [] ≡ s
loselose-nil s s_in = let e : s + 0 ≡ s = omega arith in ap (λ n. n % 2 ^ 64) e ∙ mod-eq_of_lt s_in

pub loselose-append : (s : ℕ) (t u : List ℕ) → loselose_from (loselose_from s t) u ≡ loselose_from s (t ++ u)
loselose-append s t u =
    mod-add-mod (s + sum t) (2 ^ 64) (sum u) ∙ ap (λ n. n % 2 ^ 64) (rw (sum_by-append (λ b. b) t u) (omega arith))

pub loselose-one : (s b : ℕ) → loselose_from s (b ∷ []) ≡ loselose_step s b
loselose-one s b = ap (λ n. n % 2 ^ 64) (rw (sum_by-cons (λ v. v) b []) (omega arith))

-- the sum of some bytes is added to a state
pub loselose-add : (s : ℕ) (t : List ℕ) → (s + loselose_from 0 t) % 2 ^ 64 ≡ loselose_from s t
loselose-add s t = add-mod-mod s (0 + sum t) (2 ^ 64) ∙ ap (λ n. (s + n) % 2 ^ 64) (zero-add (sum t))

pub loselose-fold : (s : ℕ) (t : List ℕ) → s < 2 ^ 64 → loselose_from s t ≡ fold loselose_step s t
loselose-fold s [] s_in = loselose-nil s s_in
loselose-fold s (b ∷ t) s_in =
    sym (loselose-append s (b ∷ []) t) ∙ ap (λ h. loselose_from h t) (loselose-one s b)
    ∙ loselose-fold ((s + b) % 2 ^ 64) t (mod-lt (s + b) (lit< tt))

-- ---- bytes behind a word

pub passthrough_sums : SumFacts passthrough_from passthrough_step (2 ^ 64)
unfolding passthrough_from
passthrough_sums = number_sums 256 (2 ^ 64)

-- eight bytes fill the word
pub passthrough_of_eight : (s : ℕ) (t : List ℕ) → length t ≡ 8 → All (λ b. b < 256) t → passthrough_from s t ≡ digit_sum 256 t
unfolding passthrough_from
passthrough_of_eight s t n bytes =
    let number_in = rw n at (digit_sum-lt 256 t bytes) in
    let d = digit_sum 256 t in
    let left : (s * 2 ^ 64 + d) % 2 ^ 64 ≡ d = omega arith in
    rw n left

-- only the last eight bytes are kept
pub passthrough_of_last : (s : ℕ) (t : List ℕ) → 8 ≤ length t → All (λ b. b < 256) t
    → passthrough_from s t ≡ digit_sum 256 (drop (length t - 8) t)
passthrough_of_last s t n bytes =
    let front = length t - 8 in
    let last = drop front t in
    sym (ap (passthrough_from s) (take-append-drop front t)) ∙ sym (passthrough_sums.joined s (take front t) last)
    ∙ passthrough_of_eight (passthrough_from s (take front t)) last (omega (arith, length-drop front t))
    (All-drop (λ b. b < 256) front t bytes)
