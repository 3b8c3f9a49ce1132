-- How hashes fall into buckets, and how many pairs of them are equal.
use Rattle.hashers.proofs.Common.{◌≡◌, ◌<◌, ◌≤◌, ◌+◌, ◌*◌, ◌%◌, ℕ, zero, suc, Bool, true, false, cond, eqb, List, [], ◌∷◌, length, refl, ap, sym, ◌∙◌, arith, IsPermutation, eqb-false, ne_eqb, sum_by-cons, sum-map}
use Rattle.std.specs.List.{range_with_len, sum, sum_by}
use Rattle.std.proofs.lemmas.Bool.{eqb-true, eq-eqb}
use Rattle.std.proofs.lemmas.List.Sorted.{length_permutation, sum_by-IsPermutation}
use Rattle.hashers.specs.Counts.{meetings, collisions, times, in_bucket, bucket_counts}
use Rattle.hashers.proofs.SumLemmas.{sum_by-add, sum_by-same, sum_by-none}

pub eqb_comm : (x y : ℕ) → eqb x y ≡ eqb y x
eqb_comm x y = at (eqb x y) refl
  where
    at : (t : Bool) → eqb x y ≡ t → eqb x y ≡ eqb y x
    at true is = is ∙ sym (eq-eqb y x (sym (eqb-true x y is)))
    at false is = is ∙ sym (ne_eqb y x (λ same. eqb-false x y is (sym same)))

-- how many of some hashes equal one of others, counted for each of those
abbrev equals : (hashes others : List ℕ) → ℕ
equals hashes others = sum_by (λ other. times other hashes) others

equals-cons : (hash : ℕ) (hashes others : List ℕ) → equals (hash ∷ hashes) others ≡ times hash others + equals hashes others
equals-cons hash hashes others =
    let split = sum_by-same (λ other. times other (hash ∷ hashes)) (λ other. cond (eqb other hash) 1 0 + times other hashes)
    (λ other.
    let here = sum_by-cons (λ x. cond (eqb x other) 1 0) hash hashes in
    let same = ap {B = ℕ} (λ t. cond t 1 0) (eqb_comm hash other) in
    omega (arith, here, same)) others in
    split ∙ sum_by-add (λ other. cond (eqb other hash) 1 0) (λ other. times other hashes) others

-- each hash equals itself, and each pair counts twice
twice_collisions : (hashes : List ℕ) → equals hashes hashes ≡ length hashes + 2 * collisions hashes
unfolding meetings
twice_collisions [] = refl
twice_collisions (hash ∷ hashes) =
    let first = equals-cons hash hashes (hash ∷ hashes) in
    let here = sum_by-cons (λ other. cond (eqb other hash) 1 0) hash hashes in
    let itself = ap {B = ℕ} (λ t. cond t 1 0) (eq-eqb hash hash refl) in
    let second = sum_by-cons (λ other. times other hashes) hash hashes in
    let rest = twice_collisions hashes in
    omega (arith, first, here, itself, second, rest)

-- the order does not matter
pub collisions_IsPermutation : (hashes others : List ℕ) → IsPermutation hashes others → collisions others ≡ collisions hashes
collisions_IsPermutation hashes others moved =
    let each = sum_by-same (λ x. times x others) (λ x. times x hashes)
    (λ x. sum_by-IsPermutation (λ other. cond (eqb other x) 1 0) hashes others moved) others in
    let all = sum_by-IsPermutation (λ x. times x hashes) hashes others moved in
    let len = length_permutation hashes others moved in
    let left = twice_collisions others in
    let right = twice_collisions hashes in
    omega (arith, each, all, len, left, right)

-- a number stands in no range that begins behind it, and once in one that has it
none_of_range : (r a n : ℕ) → r < a → sum_by (λ b. cond (eqb r b) 1 0) (range_with_len a n) ≡ 0
none_of_range r a zero below = refl
none_of_range r a (suc n) below =
    let here = sum_by-cons (λ b. cond (eqb r b) 1 0) a (range_with_len (a + 1) n) in
    let other = ap {B = ℕ} (λ t. cond t 1 0) (ne_eqb r a (λ is. omega (arith, is))) in
    let rest = none_of_range r (a + 1) n (omega arith) in
    omega (arith, here, other, rest)

one_of_range : (r a n : ℕ) → a ≤ r → r < a + n → sum_by (λ b. cond (eqb r b) 1 0) (range_with_len a n) ≡ 1
one_of_range r a zero from below = absurd (omega arith)
one_of_range r a (suc n) from below =
    at (eqb r a) refl (λ other. one_of_range r (a + 1) n (omega (arith, other)) (omega arith))
  where
    at : (t : Bool) → eqb r a ≡ t → ((r ≡ a → ⊥) → sum_by (λ b. cond (eqb r b) 1 0) (range_with_len (a + 1) n) ≡ 1)
        → sum_by (λ b. cond (eqb r b) 1 0) (range_with_len a (suc n)) ≡ 1
    at true is later =
        let same = eqb-true r a is in
        let here = sum_by-cons (λ b. cond (eqb r b) 1 0) a (range_with_len (a + 1) n) in
        let counted = ap {B = ℕ} (λ t. cond t 1 0) is in
        let rest = none_of_range r (a + 1) n (omega arith) in
        omega (arith, here, counted, rest)
    at false is later =
        let here = sum_by-cons (λ b. cond (eqb r b) 1 0) a (range_with_len (a + 1) n) in
        let counted = ap {B = ℕ} (λ t. cond t 1 0) is in
        let rest = later (eqb-false r a is) in
        omega (arith, here, counted, rest)

-- all buckets together have each hash once
all_hashes : (m : ℕ) → 0 < m → (hashes : List ℕ) → sum_by (λ b. in_bucket m b hashes) (range_with_len 0 m) ≡ length hashes
all_hashes m some [] = sum_by-none (range_with_len 0 m)
all_hashes m some (hash ∷ hashes) =
    let one = one_of_range (hash % m) 0 m (omega arith) (omega arith) in
    let rest = all_hashes m some hashes in
    let split = sum_by-same (λ b. in_bucket m b (hash ∷ hashes)) (λ b. cond (eqb (hash % m) b) 1 0 + in_bucket m b hashes)
    (λ b. sum_by-cons (λ x. cond (eqb (x % m) b) 1 0) hash hashes) (range_with_len 0 m) in
    let added = sum_by-add (λ b. cond (eqb (hash % m) b) 1 0) (λ b. in_bucket m b hashes) (range_with_len 0 m) in
    omega (arith, one, rest, split, added)

pub sum_bucket_counts : (m : ℕ) (hashes : List ℕ) → 0 < m → sum (bucket_counts m hashes) ≡ length hashes
sum_bucket_counts m hashes some = sum-map (λ b. in_bucket m b hashes) (range_with_len 0 m) ∙ all_hashes m some hashes
