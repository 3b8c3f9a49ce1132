-- How many bits are set, by words.
use Rattle.hash_bloom.proofs.Common.{ℕ, zero, suc, ◌≡◌, ◌≢◌, ◌↔◌, ◌+◌, ◌-◌, ◌*◌, ◌/◌, ◌%◌, ◌^◌, ◌<◌, ◌≤◌, List, [], ◌∷◌, length, get_or, refl, sym, ap, ap₂, ◌∙◌, arith, ⊎_elim, bit_at, sum_by, range_with_len, cases_eq, sum_by-cons, sum_by-le-sum_by, ones_cat, bit_at-lt, bit_at-suc, bit_at_lowest, Filter, IsEmpty, IsFilter, IsSet, bit, count_set, common_steps, nat_tests}
use Rattle.std.specs.Int.RustNames.{count_ones}

-- the sum of n numbers from a on
abbrev sum_from : (ℕ → ℕ) → ℕ → ℕ → ℕ
sum_from f a n = sum_by f (range_with_len a n)

next : (f : ℕ → ℕ) (a n : ℕ) → sum_from f a (suc n) ≡ f a + sum_from f (a + 1) n
next f a n = sum_by-cons f a (range_with_len (a + 1) n)

same_sum : (f g : ℕ → ℕ) (a n : ℕ) → ((i : ℕ) → a ≤ i → i < a + n → f i ≡ g i) → sum_from f a n ≡ sum_from g a n
same_sum f g a zero same = refl
same_sum f g a (suc n) same =
    next f a n ∙ ap₂ (λ x y. x + y) (same a (omega arith) (omega arith))
    (same_sum f g (a + 1) n (λ i low high. same i (omega arith) (omega arith))) ∙ sym (next g a n)

shifted_sum : (f : ℕ → ℕ) (by a n : ℕ) → sum_from f (by + a) n ≡ sum_from (λ i. f (by + i)) a n
shifted_sum f by a zero = refl
shifted_sum f by a (suc n) =
    grind (arith, next f (by + a) n, next (λ i. f (by + i)) a n, shifted_sum f by (a + 1) n)

split_sum : (f : ℕ → ℕ) (a m n : ℕ) → sum_from f a (m + n) ≡ sum_from f a m + sum_from f (a + m) n
split_sum f a zero n = grind arith
split_sum f a (suc m) n =
    let e : suc m + n ≡ suc (m + n) = omega arith in
    ap (sum_from f a) e ∙ grind (arith, next f a (m + n), next f a m, split_sum f (a + 1) m n)

-- equal terms, and terms of at most 1
steady_sum : (f : ℕ → ℕ) (c a n : ℕ) → ((i : ℕ) → a ≤ i → i < a + n → f i ≡ c) → sum_from f a n ≡ n * c
steady_sum f c a zero each = omega arith
steady_sum f c a (suc n) each =
    grind (
      arith,
      next f a n,
      each a (omega arith) (omega arith),
      steady_sum f c (a + 1) n
          (λ i low high. each i (omega arith) (omega arith)),
    )

small_sum : (f : ℕ → ℕ) (a n : ℕ) → ((i : ℕ) → f i < 2) → sum_from f a n ≤ n
small_sum f a n low = omega (
  arith,
  sum_by-le-sum_by f (λ _. 1) (range_with_len a n) (λ i. omega (arith, low i)),
  steady_sum (λ _. 1) 1 a n (λ i _ _. refl),
)

-- a number's ones are the sum of its bits
ones_low : (r : ℕ) → r < 2 → count_ones r ≡ r
unfolding count_ones
ones_low zero low = refl
ones_low (suc zero) low = refl
ones_low (suc (suc r)) low = absurd (omega arith)

pub ones_are : (k w : ℕ) → w < 2 ^ k → count_ones w ≡ sum_from (bit_at w) 0 k
ones_are zero w low = let e : w ≡ 0 = omega arith in ap count_ones e ∙ ones_low 0 (omega arith)
ones_are (suc k) w low =
    let power : 2 ^ suc k ≡ 2 * 2 ^ k = grind arith in
    let half : w / 2 < 2 ^ k = omega (arith, power, low) in
    let r : ℕ = w % 2 in
    let whole : w / 2 * 2 ^ 1 + r ≡ w = omega arith in
    let rest : sum_from (bit_at w) (1 + 0) k ≡ sum_from (bit_at (w / 2)) 0 k =
    shifted_sum (bit_at w) 1 0 k
    ∙ same_sum (λ i. bit_at w (1 + i)) (bit_at (w / 2)) 0 k
    (λ i a b. let e : 1 + i ≡ suc i = omega arith in ap (bit_at w) e ∙ bit_at-suc w i) in
    let ih = ones_are k (w / 2) half in
    let cat : count_ones (w / 2 * 2 ^ 1 + r) ≡ count_ones (w / 2) + count_ones r = ones_cat 1 (w / 2) r (omega arith) in
    grind (arith, nat_tests, common_steps, bit_at_lowest, ones_low, next)

-- those of words
sum_words : (words : List ℕ) → ((i : ℕ) → get_or words i 0 < 2 ^ 64) → sum_by count_ones words ≡ sum_from (bit words) 0 (64 * length words)
sum_words [] fits = refl
sum_words (w ∷ words) fits =
    let more : 64 * length (w ∷ words) ≡ 64 + 64 * length words = omega arith in
    let first : sum_from (bit (w ∷ words)) 0 64 ≡ sum_from (bit_at w) 0 64 =
    grind (arith, nat_tests, common_steps, same_sum) in
    let others : sum_from (bit (w ∷ words)) (64 + 0) (64 * length words) ≡ sum_from (bit words) 0 (64 * length words) =
    shifted_sum (bit (w ∷ words)) 64 0 (64 * length words)
    ∙ same_sum (λ i. bit (w ∷ words) (64 + i)) (bit words) 0 (64 * length words) (λ i low high.
    grind (arith, nat_tests, common_steps)) in
    let ih = sum_words words (λ i. fits (suc i)) in
    let here = ones_are 64 w (fits 0) in
    grind (arith, nat_tests, common_steps, split_sum, sum_by-cons)

-- no bit beyond is set, so the words' ones are those of the bits
pub ones_of_words : (words : List ℕ) (bits : ℕ) → ((i : ℕ) → get_or words i 0 < 2 ^ 64) → bits ≤ 64 * length words
    → ((i : ℕ) → bit words i ≡ 1 → i < bits) → sum_by count_ones words ≡ count_set words bits
ones_of_words words bits fits enough within =
    let n : ℕ = 64 * length words - bits in
    let whole : 64 * length words ≡ bits + n = omega arith in
    let none : sum_from (bit words) (0 + bits) n ≡ n * 0 = grind (arith, nat_tests, common_steps, steady_sum, bit_at-lt, cases_eq) in
    let split = split_sum (bit words) 0 bits n in
    sum_words words fits ∙ ap (sum_from (bit words) 0) whole ∙ split ∙ omega (arith, none)

pub count_set-le : (words : List ℕ) (bits : ℕ) → count_set words bits ≤ bits
count_set-le words bits = small_sum (bit words) 0 bits (λ i. bit_at-lt (get_or words (i / 64) 0) (i % 64))

-- where terms are no greater than others and their sum is as great, each is
each_same : (f g : ℕ → ℕ) (a n : ℕ) → ((i : ℕ) → f i ≤ g i) → sum_from f a n ≡ sum_from g a n → (i : ℕ) → a ≤ i
    → i < a + n → f i ≡ g i
each_same f g a zero most same i low high = absurd (omega (arith, low, high))
each_same f g a (suc n) most same i low high =
    let others = sum_by-le-sum_by f g (range_with_len (a + 1) n) most in
    ⊎_elim
    (λ (is : i ≡ a). grind (arith, is, next f a n, next g a n, same, most a, others))
    (λ (other : i ≢ a). each_same f g (a + 1) n most (omega (arith, next f a n, next g a n, same, most a, others)) i
    (omega (arith, low, other)) (omega (arith, high)))
    (cases_eq i a)

is_bit : (words : List ℕ) (i : ℕ) → bit words i < 2
is_bit words i = bit_at-lt (get_or words (i / 64) 0) (i % 64)

pub none_set : (filter : Filter) → IsFilter filter → (count_set filter.words filter.bits ≡ 0) ↔ IsEmpty filter
none_set filter is = (
  λ none j set. let zero_there = each_same (λ _. 0) (bit filter.words) 0 filter.bits (λ i. omega arith)
      (omega (arith, none, steady_sum (λ _. 0) 0 0 filter.bits (λ i _ _. refl))) j (omega arith)
      (omega (arith, is.within j set)) in
      absurd (omega (arith, set, zero_there)),
  λ empty. let none = steady_sum (bit filter.words) 0 0 filter.bits (λ i low high.
      let unset : bit filter.words i ≢ 1 = empty i in omega (arith, unset, is_bit filter.words i)) in
      omega (arith, none),
)

pub all_set : (filter : Filter)
    → (count_set filter.words filter.bits ≡ filter.bits) ↔ ((j : ℕ) → j < filter.bits → IsSet filter j)
all_set filter = (
  λ all j below. each_same (bit filter.words) (λ _. 1) 0 filter.bits (λ i. omega (arith, is_bit filter.words i))
      (omega (arith, all, steady_sum (λ _. 1) 1 0 filter.bits (λ i _ _. refl))) j (omega arith) (omega (arith, below)),
  λ set. let all = steady_sum (bit filter.words) 1 0 filter.bits (λ i low high. set i (omega (arith, high))) in
      omega (arith, all),
)
