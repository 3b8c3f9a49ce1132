-- Counting keys, of any form, by a number that each has.
use Rattle.std.proofs.lemmas.Grind.{common_steps}
use Rattle.std.proofs.lemmas.Bool.Decides.{nat_tests}
use Rattle.hash_map_keys.proofs.Common.{ℕ, All, All-cons, All-head, All-map, All-nil, All-tail, AllPairs, AllPairs-cons, Any-from_list_any, Bool, Decides-eqb, IsDistinct-from_AllPairs, List, [], ap, arith, cases_Bool, cases_lt, cond, count_by, eq-eqb, eqb, eqb-true, eqb_tells, false, get_or, get_or-map, inl, inr, length, length-le_from_distinct_below, length-map, list_any, map, nat_eq, refl, suc, sum_by-cons, sym, true, zero, ◌*◌, ◌+◌, ◌<◌, ◌∷◌, ◌≡◌, ◌≢◌, ◌≤◌}

-- ---- by a number that tells a key

below_all : (n : ℕ) (xs : List ℕ) → All (λ x. x < n) xs → (q : ℕ) → list_any (eqb q) xs ≡ true → q < n
below_all n xs below q found = grind (arith, nat_tests, common_steps, Any-from_list_any, eqb-true)

count_from : {X : Type 0} (any : X) (holds : X → Type 0) (f : X → ℕ) (n : ℕ) (keys : List X) → AllPairs ◌≢◌ keys → All holds keys
    → ((k : X) → holds k → f k < n) → ((k l : X) → holds k → holds l → f k ≡ f l → k ≡ l) → length keys ≤ n
count_from any holds f n keys differ all below tells =
    let long = length-map keys f in
    let apart : AllPairs ◌≢◌ (map f keys) = λ i j d less within.
    let i_in : i < length keys = omega (arith, less, within, long) in
    let j_in : j < length keys = omega (arith, within, long) in
    grind (arith, nat_tests, common_steps, get_or-map f keys i any d i_in, get_or-map f keys j any d j_in) in
    let few = length-le_from_distinct_below (map f keys) n (IsDistinct-from_AllPairs Decides-eqb (map f keys) apart)
    (below_all n (map f keys) (All-map (λ x. x < n) f keys (λ k d h. below (get_or keys k d) (all k d h)))) in
    omega (arith, few, long)

pub count : {X : Type 0} (holds : X → Type 0) (f : X → ℕ) (n : ℕ) (keys : List X) → AllPairs ◌≢◌ keys → All holds keys
    → ((k : X) → holds k → f k < n) → ((k l : X) → holds k → holds l → f k ≡ f l → k ≡ l) → length keys ≤ n
count holds f n [] differ all below tells = omega arith
count holds f n (key ∷ keys) differ all below tells = count_from key holds f n (key ∷ keys) differ all below tells

-- ---- sums over the numbers below one

total : (ℕ → ℕ) → ℕ → ℕ
total g zero = 0
total g (suc n) = total g n + g n

total-none : (n : ℕ) → total (λ c. 0) n ≡ 0
unfolding total
total-none zero = refl
total-none (suc n) = omega (arith, total-none n)

total-add : (f g : ℕ → ℕ) (n : ℕ) → total (λ c. f c + g c) n ≡ total f n + total g n
unfolding total
total-add f g zero = refl
total-add f g (suc n) = omega (arith, total-add f g n)

total-same : (f g : ℕ → ℕ) → ((c : ℕ) → f c ≡ g c) → (n : ℕ) → total f n ≡ total g n
unfolding total
total-same f g same zero = refl
total-same f g same (suc n) = omega (arith, total-same f g same n, same n)

-- where a number is one of them it is one once
is : ℕ → ℕ → ℕ
is v c = cond (nat_eq v c) 1 0

is_same : (v : ℕ) → is v v ≡ 1
unfolding is
is_same v = ap (λ b. cond b 1 0) (eq-eqb v v refl)

is_other : (v c : ℕ) → v ≢ c → is v c ≡ 0
unfolding is
is_other v c differ = grind (arith, nat_tests, common_steps, eqb_tells)

past : (v n : ℕ) → n ≤ v → total (is v) n ≡ 0
unfolding total
past v zero above = refl
past v (suc n) above = omega (arith, past v n (omega (arith, above)), is_other v n (λ same. absurd (omega (arith, above, same))))

once : (v n : ℕ) → v < n → total (is v) n ≡ 1
unfolding total
once v zero below = absurd (omega (arith, below))
once v (suc n) below = elim (cases_lt v n) [
  | inl less ↦ omega (arith, once v n less, is_other v n (λ same. absurd (omega (arith, less, same))))
  | inr last ↦
      let e : v ≡ n = omega (arith, below, last) in
      omega (arith, past v n last, ap (is v) (sym e), is_same v)
]

bounded : (g : ℕ → ℕ) (most n : ℕ) → ((c : ℕ) → c < n → g c ≤ most) → total g n ≤ n * most
unfolding total
bounded g most zero few = omega arith
bounded g most (suc n) few = omega (arith, bounded g most n (λ c below. few c (omega (arith, below))), few n (omega arith))

-- what one lacks the sum lacks
lacking : (g : ℕ → ℕ) (most n c : ℕ) → ((i : ℕ) → i < n → g i ≤ most) → c < n → total g n + most ≤ n * most + g c
unfolding total
lacking g most zero c few below = absurd (omega (arith, below))
lacking g most (suc n) c few below =
    let before = λ (i : ℕ) (i_in : i < n). few i (omega (arith, i_in)) in
    elim (cases_lt c n) [
      | inl less ↦ omega (arith, lacking g most n c before less, few n (omega arith))
      | inr last ↦
          let e : c ≡ n = omega (arith, below, last) in
          omega (arith, bounded g most n before, ap g e)
    ]

-- the numbers below one that have a mark
pub those : (ℕ → Bool) → ℕ → List ℕ
those mark zero = []
those mark (suc n) = cond (mark n) (n ∷ those mark n) (those mark n)

module _ (mark : ℕ → Bool) where
  pub those_below : (n : ℕ) → All (λ c. c < n) (those mark n)
  unfolding those
  those_below zero = All-nil (λ c. c < 0)
  those_below (suc n) =
      let before : All (λ c. c < suc n) (those mark n) = λ i d h. omega (arith, those_below n i d h) in
      grind (arith, nat_tests, common_steps, cases_Bool, All-cons, those)

  pub those_marked : (n : ℕ) → All (λ c. mark c ≡ true) (those mark n)
  unfolding those
  those_marked zero = All-nil (λ c. mark c ≡ true)
  those_marked (suc n) = grind (arith, nat_tests, common_steps, cases_Bool (mark n), those mark n, those_marked n)

  pub those_differ : (n : ℕ) → AllPairs ◌≢◌ (those mark n)
  unfolding those
  those_differ zero = λ i j d less within. absurd (omega (arith, within))
  those_differ (suc n) = elim (cases_Bool (mark n)) [
    | inl has ↦
        rw has (AllPairs-cons ◌≢◌ n (those mark n) (λ i d h same. absurd (omega (arith, those_below n i d h, same))) (those_differ n))
    | inr lacks ↦ rw lacks (those_differ n)
  ]

  sum_of_those : (extra n : ℕ) → total (λ c. cond (mark c) extra 0) n ≡ length (those mark n) * extra
  unfolding those total
  sum_of_those extra zero = omega arith
  sum_of_those extra (suc n) = elim (cases_Bool (mark n)) [
    | inl has ↦
        let one : cond (mark n) extra 0 ≡ extra = ap (λ b. cond b extra 0) has in
        let longer : length (cond (mark n) (n ∷ those mark n) (those mark n)) ≡ suc (length (those mark n)) =
        ap (λ b. length (cond b (n ∷ those mark n) (those mark n))) has in
        omega (arith, one, ap (λ k. k * extra) longer, sum_of_those extra n)
    | inr lacks ↦
        grind (arith, nat_tests, common_steps, those mark n, sum_of_those extra n)
  ]

bounded_but : (g h : ℕ → ℕ) (most n : ℕ) → ((c : ℕ) → c < n → g c ≤ most + h c) → total g n ≤ n * most + total h n
unfolding total
bounded_but g h most zero few = omega arith
bounded_but g h most (suc n) few = omega (arith, bounded_but g h most n (λ c below. few c (omega (arith, below))), few n (omega arith))

-- ---- by a number that many keys have

module _ {X : Type 0} (f : X → ℕ) where
  unfoldable pub having : ℕ → X → Bool
  having c key = nat_eq (f key) c

  counted : (n : ℕ) (keys : List X) → All (λ key. f key < n) keys → length keys ≡ total (λ c. count_by (having c) keys) n
  unfolding having is
  counted n [] below = sym (total-none n)
  counted n (key ∷ keys) below =
      omega (
        arith,
        counted n keys (All-tail (λ k. f k < n) key keys below),
        once (f key) n (All-head (λ k. f k < n) key keys below),
        total-add (is (f key)) (λ c. count_by (having c) keys) n,
        total-same (λ c. count_by (having c) (key ∷ keys)) (λ c. is (f key) c + count_by (having c) keys)
            (λ c. sum_by-cons (λ k. cond (having c k) 1 0) key keys) n,
      )

  -- all are no more than the most that have one number, for each number
  pub few_in_all : (n most : ℕ) (keys : List X) → All (λ key. f key < n) keys → ((i : ℕ) → i < n → count_by (having i) keys ≤ most)
      → length keys ≤ n * most
  few_in_all n most keys below few = omega (arith, counted n keys below, bounded (λ i. count_by (having i) keys) most n few)

  -- where no number is more keys' than its share, and the keys are all the shares together, each has its share
  pub just_its_share : (n most c : ℕ) (keys : List X) → All (λ key. f key < n) keys → ((i : ℕ) → i < n → count_by (having i) keys ≤ most)
      → length keys ≡ n * most → c < n → count_by (having c) keys ≡ most
  just_its_share n most c keys below few all c_in =
      omega (arith, few c c_in, lacking (λ i. count_by (having i) keys) most n c few c_in, counted n keys below, all)

  -- all are no more than the most that have one number, for each number, and so many more for each number with a mark
  pub few_but_those : (mark : ℕ → Bool) (n most extra : ℕ) (keys : List X) → All (λ key. f key < n) keys
      → ((i : ℕ) → i < n → mark i ≡ false → count_by (having i) keys ≤ most) → ((i : ℕ) → i < n → count_by (having i) keys ≤ extra)
      → length keys ≤ n * most + length (those mark n) * extra
  few_but_those mark n most extra keys below few all =
      let each : (c : ℕ) → c < n → count_by (having c) keys ≤ most + cond (mark c) extra 0 =
      grind (arith, nat_tests, common_steps, cases_Bool) in
      omega (
        arith,
        counted n keys below,
        bounded_but (λ c. count_by (having c) keys) (λ c. cond (mark c) extra 0) most n each,
        sum_of_those mark extra n,
      )
