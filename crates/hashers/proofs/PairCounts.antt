-- What the counts tell of two hashes where they are 0, or at most 1.
use Rattle.hashers.proofs.Common.{◌≡◌, ◌≢◌, ◌<◌, ◌≤◌, ◌+◌, ◌%◌, ◌∙◌, ℕ, suc, Bool, true, false, cond, eqb, List, [], ◌∷◌, All, refl, ap, sym, arith, AllPairs, count_by, eqb-false, ne_eqb, All-nil, All-cons, All-head, All-tail, sum_by-cons, mod_below}
use Rattle.std.proofs.lemmas.Bool.{eqb-true, eq-eqb}
use Rattle.std.proofs.lemmas.List.Kept.{AllPairs-cons}
use Rattle.hashers.specs.Counts.{collisions, in_bucket, meetings}

-- none of some is counted exactly where the test fails at each
none_counted : {A : Type 0} (p : A → Bool) (xs : List A) → count_by p xs ≡ 0 → All (λ x. p x ≡ false) xs
none_counted p [] none = All-nil (λ x. p x ≡ false)
none_counted p (x ∷ xs) none =
    let split = sum_by-cons (λ y. cond (p y) 1 0) x xs in
    at (p x) refl (none_counted p xs (omega (arith, none, split))) split
  where
    at : (b : Bool) → p x ≡ b → All (λ y. p y ≡ false) xs → count_by p (x ∷ xs) ≡ cond b 1 0 + count_by p xs
        → All (λ y. p y ≡ false) (x ∷ xs)
    at true is rest split = absurd (omega (arith, none, split))
    at false is rest split = All-cons (λ y. p y ≡ false) x xs is rest

counted_none : {A : Type 0} (p : A → Bool) (xs : List A) → All (λ x. p x ≡ false) xs → count_by p xs ≡ 0
counted_none p [] none = refl
counted_none p (x ∷ xs) none =
    let here = ap {B = ℕ} (λ b. cond b 1 0) (All-head (λ y. p y ≡ false) x xs none) in
    let rest = counted_none p xs (All-tail (λ y. p y ≡ false) x xs none) in
    omega (arith, sum_by-cons (λ y. cond (p y) 1 0) x xs, here, rest)

no_pair : (R : ℕ → ℕ → Type 0) → AllPairs R []
no_pair R i j d before within = absurd (omega (arith, within))

-- no pair is equal exactly where no two are
pub apart : (hashes : List ℕ) → collisions hashes ≡ 0 → AllPairs (λ a b. a ≢ b) hashes
unfolding meetings
apart [] none = no_pair (λ a b. a ≢ b)
apart (hash ∷ hashes) none =
    let here : count_by (λ other. eqb other hash) hashes ≡ 0 = omega (arith, none) in
    let rest : collisions hashes ≡ 0 = omega (arith, none) in
    let differ = none_counted (λ other. eqb other hash) hashes here in
    AllPairs-cons (λ a b. a ≢ b) hash hashes (λ k d within same. eqb-false _ hash (differ k d within) (sym same)) (apart hashes rest)

pub none_meet : (hashes : List ℕ) → AllPairs (λ a b. a ≢ b) hashes → collisions hashes ≡ 0
unfolding meetings
none_meet [] differ = refl
none_meet (hash ∷ hashes) differ =
    let here = counted_none (λ other. eqb other hash) hashes
    (λ k d within. ne_eqb _ hash (λ same. differ 0 (suc k) d (omega arith) (omega (arith, within)) (sym same))) in
    let rest = none_meet hashes
    (λ i j d before within. differ (suc i) (suc j) d (omega (arith, before)) (omega (arith, within))) in
    omega (arith, here, rest)

-- where no bucket has two, no two fall into one
pub apart_by_buckets : (m : ℕ) (hashes : List ℕ) → 0 < m → ((b : ℕ) → b < m → in_bucket m b hashes ≤ 1)
    → AllPairs (λ a b. a % m ≢ b % m) hashes
apart_by_buckets m [] some most = no_pair (λ a b. a % m ≢ b % m)
apart_by_buckets m (hash ∷ hashes) some most =
    let bucket : ℕ = hash % m in
    let split = sum_by-cons (λ other. cond (eqb (other % m) bucket) 1 0) hash hashes in
    let itself = ap {B = ℕ} (λ b. cond b 1 0) (eq-eqb bucket bucket refl) in
    let none : in_bucket m bucket hashes ≡ 0 = omega (arith, most bucket (mod_below hash m some), split, itself) in
    let differ = none_counted (λ other. eqb (other % m) bucket) hashes none in
    AllPairs-cons (λ a b. a % m ≢ b % m) hash hashes (λ k d within same. eqb-false _ bucket (differ k d within) (sym same))
    (apart_by_buckets m hashes some (λ b below.
    omega (arith, most b below, sum_by-cons (λ other. cond (eqb (other % m) b) 1 0) hash hashes)))

pub one_in_bucket : (m b : ℕ) (hashes : List ℕ) → AllPairs (λ x y. x % m ≢ y % m) hashes → in_bucket m b hashes ≤ 1
one_in_bucket m b [] differ = omega arith
one_in_bucket m b (hash ∷ hashes) differ =
    at (eqb (hash % m) b) refl
    (one_in_bucket m b hashes (λ i j d before within. differ (suc i) (suc j) d (omega (arith, before)) (omega (arith, within))))
  where
    at : (t : Bool) → eqb (hash % m) b ≡ t → in_bucket m b hashes ≤ 1 → in_bucket m b (hash ∷ hashes) ≤ 1
    at true is rest =
        let others = counted_none (λ other. eqb (other % m) b) hashes
        (λ k d within. ne_eqb _ b (λ same. differ 0 (suc k) d (omega arith) (omega (arith, within)) (eqb-true (hash % m) b is ∙ sym same))) in
        omega (arith, others, sum_by-cons (λ other. cond (eqb (other % m) b) 1 0) hash hashes, ap {B = ℕ} (λ t. cond t 1 0) is)
    at false is rest = omega (arith, rest, sum_by-cons (λ other. cond (eqb (other % m) b) 1 0) hash hashes, ap {B = ℕ} (λ t. cond t 1 0) is)
