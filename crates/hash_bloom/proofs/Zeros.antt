-- How many zeros are expected after some probes, and how near the parts of 2 ^ 128 come to that.
use Rattle.hash_bloom.proofs.Common.{ℕ, ⊎_elim, zero, suc, ◌≡◌, ◌+◌, ◌-◌, ◌*◌, ◌/◌, ◌^◌, ◌<◌, ◌≤◌, arith, lit≤, min, refl, sym, ap, ◌∙◌, subst, pow-add, div-mul-le_self, le_of_mul-le-mul_left, le_of_mul-le-mul_right, lt-div-mul-add, lt-mul-div-succ, lt_of_mul-lt-mul_left, mul-le-mul, mul-le-mul_left, mul-div-le, mul-le-mul_right, one-le-pow, pow-le-pow_left, pow-suc, pow-zero, cases_lt, pow_more, IsExpected, IsNearest, LeavesAtMost, LeavesMore, rules, common_steps, nat_tests}

pow_one : (x : ℕ) → x ^ 1 ≡ x
pow_one x = pow_more x 0 ∙ rw (pow-zero x) (omega arith)

cube : (x : ℕ) → x ^ 3 ≡ x * x * x
cube x = rw (pow_more x 2, pow_more x 1, pow_one x) refl

-- ---- the formula
-- Bernoulli's inequality, (1 + 1 / c) ^ n ≥ 1 + n / c
bernoulli : (c n : ℕ) → c ^ n * (c + n) ≤ (c + 1) ^ n * c
bernoulli c zero = rw (pow-zero c, pow-zero (c + 1)) (omega arith)
bernoulli c (suc n) =
    let h : c ^ n * (c + n) * (c + 1) ≤ (c + 1) ^ n * c * (c + 1) = mul-le-mul_right (c + 1) (bernoulli c n) in
    rw (pow-suc c n, pow-suc (c + 1) n) (grind (arith, h))

-- as many probes as there are bits leave half of them at most
half : (c : ℕ) → 1 ≤ c → 2 * c ^ (c + 1) ≤ (c + 1) ^ (c + 1)
half c some =
    let all : 2 * c ^ (c + 1) * c ≤ (c + 1) ^ (c + 1) * c = grind (arith, bernoulli c (c + 1)) in
    le_of_mul-le-mul_right all some

halves : (c j : ℕ) → 1 ≤ c → 2 ^ j * c ^ ((c + 1) * j) ≤ (c + 1) ^ ((c + 1) * j)
halves c zero some = grind (arith, nat_tests, common_steps, pow-zero)
halves c (suc j) some =
    let b = c + 1 in
    let e : b * suc j ≡ b * j + b = grind arith in
    let h : 2 ^ j * c ^ (b * j) * (2 * c ^ b) ≤ b ^ (b * j) * b ^ b = mul-le-mul (halves c j some) (half c some) in
    rw (e, pow-add c (b * j) b, pow-add b (b * j) b, pow-suc 2 j) (grind (arith, h))

module _ (bits zeros : ℕ) where
  -- more probes leave no more
  pub at_most_later : (m n : ℕ) → m ≤ n → LeavesAtMost bits zeros m → LeavesAtMost bits zeros n
  at_most_later m n upto h =
      let d = n - m in
      let is : n ≡ m + d = omega arith in
      let less : (bits - 1) ^ d ≤ bits ^ d = pow-le-pow_left (omega arith) d in
      rw (is, pow-add (bits - 1) m d, pow-add bits m d) (grind (arith, mul-le-mul h less))

  pub more_before : (m n : ℕ) → m ≤ n → LeavesMore bits zeros n → LeavesMore bits zeros m
  more_before m n upto h = grind (arith, nat_tests, common_steps, at_most_later, cases_lt)

  -- 64 probes a bit leave less than one zero of 2 ^ 64
  pub few : 2 ≤ bits → 1 ≤ zeros → bits ≤ 2 ^ 64 → (m : ℕ) → LeavesMore bits zeros m → m < 64 * bits
  few two some most m more = ⊎_elim
      (λ (low : m < 64 * bits). low)
      (λ (high : 64 * bits ≤ m).
      let c = bits - 1 in
      let p = bits ^ (bits * 64) in
      let is : c + 1 ≡ bits = omega arith in
      let all : 2 ^ 64 * c ^ (bits * 64) ≤ p = subst (λ b. 2 ^ 64 * c ^ (b * 64) ≤ b ^ (b * 64)) is (halves c 64 (omega arith)) in
      let at_most : LeavesAtMost bits zeros (bits * 64) =
      omega (arith, all, mul-le-mul_left (c ^ (bits * 64)) most, mul-le-mul_right p some) in
      absurd (omega (arith, more, at_most_later (bits * 64) m (omega arith) at_most)))
      (cases_lt m (64 * bits))

-- ---- in parts of t
module _ (t x y s a b c d : ℕ) (some : 1 ≤ t) (within : y ≤ t) (under : a ≤ b) (floor : s * t ≤ x * y) (ceiling : x * y ≤ s * t + t) where
  -- a product of lower bounds, rounded down, is a lower bound of the product
  rounded_low : x * b ≤ t * a → y * d ≤ t * c → s * (b * d) ≤ t * (a * c)
  rounded_low h k =
      let all : t * (s * (b * d)) ≤ t * (t * (a * c)) = grind (arith, mul-le-mul h k, mul-le-mul_right (b * d) floor) in
      le_of_mul-le-mul_left all some

  -- and loses at most one part more than both
  rounded_high : (e f : ℕ) → t * a ≤ (x + e) * b → t * c ≤ (y + f) * d → t * (a * c) ≤ (s + (e + f + 1)) * (b * d)
  rounded_high e f h k =
      let all : t * (t * (a * c)) ≤ t * ((s + (e + f + 1)) * (b * d)) = grind (
        arith,
        mul-le-mul_left (t * a) k,
        mul-le-mul_right (y * d) h,
        mul-le-mul_right (t * (f * d)) under,
        mul-le-mul_left (e * (b * d)) within,
        mul-le-mul_right (b * d) ceiling,
      ) in
      le_of_mul-le-mul_left all some

-- what the probes of both leave
pub expected_both : (bits p q x y s : ℕ) → IsExpected bits p x → IsExpected bits q y → y ≤ 2 ^ 128 → s ≡ x * y / 2 ^ 128
    → IsExpected bits (p + q) s
expected_both bits p q x y s one other within is =
    let floor : s * 2 ^ 128 ≤ x * y = rw is (div-mul-le_self (x * y) (2 ^ 128)) in
    let ceiling : x * y ≤ s * 2 ^ 128 + 2 ^ 128 = omega arith in
    let under : (bits - 1) ^ p ≤ bits ^ p = pow-le-pow_left (omega arith) p in
    let errors : 2 * p - 1 + (2 * q - 1) + 1 ≡ 2 * (p + q) - 1 = omega (arith, one.some, other.some) in
    let a = (bits - 1) ^ p in
    let b = bits ^ p in
    let c = (bits - 1) ^ q in
    let d = bits ^ q in
    record {
      some = omega (arith, one.some);
      low = rw (pow-add bits p q, pow-add (bits - 1) p q)
          (rounded_low (2 ^ 128) x y s a b c d (lit≤ tt) within under floor ceiling one.low other.low);
      high = rw (pow-add bits p q, pow-add (bits - 1) p q, ← errors)
          (rounded_high (2 ^ 128) x y s a b c d (lit≤ tt) within under floor ceiling (2 * p - 1) (2 * q - 1) one.high other.high);
    }

-- more than the zeros' part of t is more than the zeros
above : (t q b z p a left : ℕ) → 1 ≤ p → 1 ≤ b → t ≤ q * b → left * p ≤ t * a → z * q < left → z * p < a * b
above t q b z p a left positive some ceiling low more =
    let all : t * (z * p) < t * (a * b) = grind (
      arith,
      mul-le-mul_right (p * b) more,
      mul-le-mul_right (z * p) ceiling,
      mul-le-mul_right b low,
      mul-le-mul positive some,
    ) in
    lt_of_mul-lt-mul_left t all

-- what was rounded down is less than a bit's part for each of the zeros
lost : (t q c z e : ℕ) → q * (c + 1) ≤ t + c → c * (z + e) ≤ z * q → (z * q + e) * c ≤ z * t
lost t q c z e floor small = grind (arith, small, mul-le-mul_left z floor)

-- so at most the zeros' part is at most the zeros, after one probe more
within : (t q b c z p a left e : ℕ) → 1 ≤ t → t * a ≤ (left + e) * p → left ≤ z * q → (z * q + e) * c ≤ z * t → a * c * b ≤ z * (p * b)
within t q b c z p a left e some high most enough =
    let all : t * (a * c * b) ≤ t * (z * (p * b)) = grind (
      arith,
      mul-le-mul_right (c * b) high,
      mul-le-mul_right (p * (c * b)) most,
      mul-le-mul_right (p * b) enough,
    ) in
    le_of_mul-le-mul_left all some

module _ (bits bit : ℕ) (two : 2 ≤ bits) (is : bit ≡ (2 ^ 128 - 1) / bits + 1) where
  -- a bit's part, rounded up
  floor : 2 ^ 128 ≤ bit * bits
  floor = grind (arith, nat_tests, common_steps, lt-div-mul-add)

  ceiling : bit * bits < 2 ^ 128 + bits
  ceiling = grind (arith, nat_tests, common_steps, div-mul-le_self)

  pub expected_first : IsExpected bits 1 (2 ^ 128 - 1 - bit + 1)
  expected_first =
      let zeros = 2 ^ 128 - 1 - bit + 1 in
      let twice : (2 ^ 128 - 1) / bits * 2 ≤ (2 ^ 128 - 1) / bits * bits = mul-le-mul_left ((2 ^ 128 - 1) / bits) two in
      let rest : zeros + bit ≡ 2 ^ 128 = omega (arith, is, twice, div-mul-le_self (2 ^ 128 - 1) bits) in
      let b : bits ^ 1 ≡ bits = pow_one bits in
      let c : (bits - 1) ^ 1 ≡ bits - 1 = pow_one (bits - 1) in
      let all : (zeros + bit) * bits ≡ 2 ^ 128 * bits = ap (λ n. n * bits) rest in
      grind (arith, nat_tests, common_steps, floor, ceiling)

  module _ (zeros m left : ℕ) (expected : IsExpected bits m left) where
    pub leaves_more : zeros * bit < left → LeavesMore bits zeros m
    leaves_more more = above (2 ^ 128) bit bits zeros (bits ^ m) ((bits - 1) ^ m) left (one-le-pow m bits (omega arith)) (omega arith) floor
        expected.low more

    pub leaves_at_most : left ≤ zeros * bit → zeros ≤ bits → bits ^ 3 ≤ 2 ^ 120 * zeros → m ≤ 64 * bits → LeavesAtMost bits zeros (m + 1)
    leaves_at_most most upto small soon =
        let c = bits - 1 in
        let e = 2 * m - 1 in
        let next : bits ≡ c + 1 = omega arith in
        let less : c ≤ bits = omega arith in
        let error : zeros + e ≤ 129 * bits = omega (arith, upto, soon) in
        let all : c * (zeros + e) * bits ≤ zeros * bit * bits = grind (
          arith,
          mul-le-mul_right bits (mul-le-mul less error),
          cube bits,
          small,
          mul-le-mul_left zeros floor,
        ) in
        let under : c * (zeros + e) ≤ zeros * bit = le_of_mul-le-mul_right all (omega arith) in
        let over : bit * (c + 1) ≤ 2 ^ 128 + c = subst (λ b. bit * b ≤ 2 ^ 128 + c) next (omega (arith, ceiling)) in
        let enough : (zeros * bit + e) * c ≤ zeros * 2 ^ 128 = lost (2 ^ 128) bit c zeros e over under in
        let all : (bits - 1) ^ m * c * bits ≤ zeros * (bits ^ m * bits) =
        within (2 ^ 128) bit bits c zeros (bits ^ m) (c ^ m) left e (omega arith) expected.high most enough in
        subst (λ n. n * bits ≤ zeros * bits ^ (m + 1)) (sym (pow_more c m))
        (subst (λ n. c ^ m * c * bits ≤ zeros * n) (sym (pow_more bits m)) all)

-- the fewest probes to the nearest number of keys
pub nearest : (bits probes zeros m keys : ℕ) → 1 ≤ probes → 1 ≤ m → keys ≡ min ((m + probes / 2) / probes) (2 ^ 64 - 1)
    → LeavesMore bits zeros (m - 1) → (bits ^ 3 ≤ 2 ^ 120 * zeros → LeavesAtMost bits zeros (m + 1)) → IsNearest bits probes zeros keys
nearest bits probes zeros m keys some positive is before after =
    let whole = (m + probes / 2) / probes in
    let under : probes * whole ≤ m + probes / 2 = mul-div-le (m + probes / 2) probes in
    let over : m + probes / 2 < probes * (whole + 1) = lt-mul-div-succ (m + probes / 2) some in
    record {
      more = λ n h.
          let upto : probes * keys ≤ probes * whole = mul-le-mul_left probes (omega (arith, is)) in
          more_before bits zeros n (m - 1) (omega (arith, h, upto, under)) before;
      at_most = λ small fits n h.
          search (rules, at_most_later);
    }
