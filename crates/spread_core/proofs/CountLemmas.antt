-- How hashes fall into buckets.
use Rattle.spread_core.proofs.Common.{◌≡◌, ◌<◌, ◌≤◌, ◌+◌, ◌-◌, ◌*◌, ◌%◌, ◌^◌, ℕ, List, [], ◌∷◌, length, take, get_or, All, Contains, ap, sym, ◌∙◌, arith, sum, sum_by, set, mul-le-mul_left, get_or-set_other, nat_tests, common_steps, get_or-map-range_with_len, length-map-range_with_len, sum_by-cons, sum_by_more_le, in_bucket, bucket_counts}
use Rattle.spread_core.specs.Counts.{IsFullest}

-- a hash more is counted in its bucket, and in no other
pub bucket_more : (m : ℕ) (hashes counts : List ℕ) (i : ℕ) → i < length hashes → length counts ≡ m
    → ((b : ℕ) → b < m → get_or counts b 0 ≡ in_bucket m b (take i hashes))
    → (b : ℕ) → b < m → get_or (set counts (get_or hashes i 0 % m) (get_or counts (get_or hashes i 0 % m) 0 + 1)) b 0
    ≡ in_bucket m b (take (i + 1) hashes)
bucket_more m hashes counts i below len each b b_in =
    grind (arith, common_steps, nat_tests, each b b_in, get_or-set_other counts (get_or hashes i 0 % m) b)

-- the greatest of the buckets' counts
pub fullest_of : (m : ℕ) (hashes counts : List ℕ) (most : ℕ) → 0 < m → counts ≡ bucket_counts m hashes → All (λ count. count ≤ most) counts
    → (0 < length counts → Contains counts most) → IsFullest m hashes most
fullest_of m hashes counts most some is all reached =
    let f : ℕ → ℕ = λ b. in_bucket m b hashes in
    let len : length counts ≡ m = ap length is ∙ length-map-range_with_len f 0 m in
    let at : (b d : ℕ) → b < m → get_or counts b d ≡ f b =
    λ b d b_in. ap (λ l. get_or l b d) is ∙ get_or-map-range_with_len f 0 m b b d b_in (omega arith) in
    let (k, k_in, found) = reached (omega arith) in
    record {
      most = λ b b_in. let low = all b 0 (omega arith) in let here = at b 0 b_in in omega (arith, low, here);
      reached = (k, omega arith, sym (at k most (omega arith)) ∙ found);
    }

-- squares add up to no more than the square of the sum
squares-le : (xs : List ℕ) → sum_by (λ x. x * x) xs ≤ sum xs * sum xs
squares-le [] = omega arith
squares-le (x ∷ xs) =
    let here = sum_by-cons (λ y. y * y) x xs in
    let wide = ap (λ s. s * s) (sum_by-cons (λ y. y) x xs) in
    omega (arith, here, wide, squares-le xs)

-- the squares so far and the next fit into 128 bits
pub squares_fit : (xs : List ℕ) (i : ℕ) → i < length xs → sum xs < 2 ^ 64
    → sum_by (λ x. x * x) (take i xs) + get_or xs i 0 * get_or xs i 0 < 2 ^ 128
squares_fit xs i below small =
    let part = sum_by_more_le (λ x. x * x) xs i 0 below in
    let all = squares-le xs in
    let low : sum xs ≤ 2 ^ 64 - 1 = omega arith in
    let first = mul-le-mul_left (sum xs) low in
    let second = mul-le-mul_left (2 ^ 64 - 1) low in
    omega (arith, part, all, first, second)
