-- What a map from texts to numbers answers, one change after another.
use Rattle.text_set.proofs.Common.{ℕ, zero, suc, ◌≡◌, ◌≢◌, ◌+◌, ◌≤◌, Bool, true, false, cond, List, [], ◌∷◌, sum_by, Option, Some, None, arith, sym, ap, ◌∙◌, subst, refl, All, IsPermutation, Ordering, Less, Equal, Greater, All-head, All-tail, sum_by-IsPermutation, sum_by-cons}
use Rattle.std.specs.Ordering.{nat_cmp, eq_by_cmp, is_eq}
use Rattle.std.specs.Cmp.{eq_by_cmp_equiv}
use Rattle.std.specs.Cmp.Lexicographic.{slice_cmp, nat_list_cmp_total}
use Rattle.std.specs.FinMap.{get, insert, remove, get-insert, get-remove, same_map, slice_cmp-IsAntisymmetric, nat_cmp-IsAntisymmetric}
use Rattle.text_set.specs.TextMaps.{TextMap, InsertsCommute, KeysDiffer, OthersStay, with_all}

abbrev pub same : List ℕ → List ℕ → Bool
same = eq_by_cmp (slice_cmp nat_cmp)

is_equal : (r : Ordering) → is_eq r ≡ true → r ≡ Equal
is_equal Less e = cc
is_equal Equal e = refl
is_equal Greater e = cc

-- keys that tie are the same
pub same_key : (q k : List ℕ) → same q k ≡ true → q ≡ k
same_key q k e = slice_cmp-IsAntisymmetric nat_cmp-IsAntisymmetric q k (is_equal _ e)

pub same_itself : (k : List ℕ) → same k k ≡ true
same_itself k = (eq_by_cmp_equiv nat_list_cmp_total).refl k

pub not_same : (q k : List ℕ) → q ≢ k → same q k ≡ false
not_same q k ne = elim (same q k) as (λ t. same q k ≡ t → t ≡ false) [ true ↦ λ e. absurd (ne (same_key q k e)) | false ↦ λ e. refl ] refl

-- maps that answer alike are the same
pub alike : (m n : TextMap) → ((q : List ℕ) → get m q ≡ get n q) → m ≡ n
alike m n h = same_map nat_list_cmp_total (slice_cmp-IsAntisymmetric nat_cmp-IsAntisymmetric) m n h

-- ---- one change
pub get_insert : (m : TextMap) (k q : List ℕ) (v : ℕ) → get (insert m k v) q ≡ cond (same q k) (Some v) (get m q)
get_insert m k q v = get-insert nat_list_cmp_total m k v q

pub get_insert_same : (m : TextMap) (k : List ℕ) (v : ℕ) → get (insert m k v) k ≡ Some v
get_insert_same m k v = get_insert m k k v ∙ ap (λ b. cond b (Some v) (get m k)) (same_itself k)

pub get_insert_other : (m : TextMap) (k : List ℕ) (v : ℕ) → OthersStay m (insert m k v) k
get_insert_other m k v q apart = get_insert m k q v ∙ ap (λ b. cond b (Some v) (get m q)) (not_same q k apart)

pub get_remove : (m : TextMap) (k q : List ℕ) → get (remove m k) q ≡ cond (same q k) None (get m q)
get_remove m k q = get-remove nat_list_cmp_total m k q

pub get_remove_same : (m : TextMap) (k : List ℕ) → get (remove m k) k ≡ None
get_remove_same m k = get_remove m k k ∙ ap (λ b. cond b None (get m k)) (same_itself k)

pub get_remove_other : (m : TextMap) (k : List ℕ) → OthersStay m (remove m k) k
get_remove_other m k q apart = get_remove m k q ∙ ap (λ b. cond b None (get m q)) (not_same q k apart)

-- ---- two changes
-- at each key the later of two inserts of different keys may as well be the earlier
at_each : (m : TextMap) (k q : List ℕ) (v w : ℕ) → k ≢ q → (x : List ℕ)
    → cond (same x q) (Some w) (cond (same x k) (Some v) (get m x)) ≡ cond (same x k) (Some v) (cond (same x q) (Some w) (get m x))
at_each m k q v w apart x = grind (arith, not_same, same_key)

pub inserts_commute : (m : TextMap) (k q : List ℕ) (v w : ℕ) → k ≢ q → InsertsCommute m k v q w
inserts_commute m k q v w apart = grind (arith, alike, get_insert, at_each)

pub removal_undoes_insert : (m : TextMap) (k : List ℕ) (v : ℕ) → get m k ≡ None → remove (insert m k v) k ≡ m
removal_undoes_insert m k v none =
    alike _ _
    (λ q. grind (arith, get_remove, get_insert, same_key))

pub old_value_undoes_insert : (m : TextMap) (k : List ℕ) (v w : ℕ) → get m k ≡ Some w → insert (insert m k v) k w ≡ m
old_value_undoes_insert m k v w had =
    alike _ _
    (λ q. grind (arith, get_insert, same_key))

pub removal_of_nothing : (m : TextMap) (k : List ℕ) → get m k ≡ None → remove m k ≡ m
removal_of_nothing m k none =
    alike _ _
    (λ q. grind (arith, get_remove, same_key))

-- ---- many inserts, in any order
-- how many of the keys are q, and what is put in at them, one too high: a sum does not see an order
abbrev is_at : List ℕ → List ℕ × ℕ → ℕ
is_at q pair = cond (same q pair.0) 1 0

abbrev put_at : List ℕ → List ℕ × ℕ → ℕ
put_at q pair = cond (same q pair.0) (suc pair.1) 0

nothing_put : (q : List ℕ) (pairs : List (List ℕ × ℕ)) → sum_by (is_at q) pairs ≡ 0 → sum_by (put_at q) pairs ≡ 0
nothing_put q [] none = refl
nothing_put q (x ∷ xs) none =
    sum_by-cons (put_at q) x xs
    ∙ elim (same q x.0) as (λ b. cond b 1 0 + sum_by (is_at q) xs ≡ 0 → cond b (suc x.1) 0 + sum_by (put_at q) xs ≡ 0) [
      | true ↦ λ e. let some : 1 + sum_by (is_at q) xs ≡ 0 = e in absurd (omega (arith, some))
      | false ↦ λ e. let rest : 0 + sum_by (is_at q) xs ≡ 0 = e in
          cc (nothing_put q xs (omega (arith, rest)))
    ] (sym (sum_by-cons (is_at q) x xs) ∙ none)

told : ℕ → Option ℕ → Option ℕ
told zero before = before
told (suc v) before = Some v

get_with_all : (m : TextMap) (pairs : List (List ℕ × ℕ)) (q : List ℕ) → sum_by (is_at q) pairs ≤ 1
    → get (with_all m pairs) q ≡ told (sum_by (put_at q) pairs) (get m q)
unfolding told
get_with_all m [] q once = refl
get_with_all m (x ∷ xs) q once =
    let left : ℕ = sum_by (put_at q) xs in
    elim (same q x.0) as (λ b. same q x.0 ≡ b → cond b 1 0 + sum_by (is_at q) xs ≤ 1
    → get (with_all (insert m x.0 x.1) xs) q ≡ told (cond b (suc x.1) 0 + left) (get m q)) [
      | true ↦ λ e only.
          let one : 1 + sum_by (is_at q) xs ≤ 1 = only in
          let none : left ≡ 0 = nothing_put q xs (omega (arith, one)) in
          grind (arith, get_with_all (insert m x.0 x.1) xs q (omega (arith, one)), get_insert m x.0 q x.1)
      | false ↦ λ e only.
          let one : 0 + sum_by (is_at q) xs ≤ 1 = only in
          grind (arith, get_with_all (insert m x.0 x.1) xs q (omega (arith, one)), told left, get_insert m x.0 q x.1)
    ] refl (subst (λ s. s ≤ 1) (sum_by-cons (is_at q) x xs) once)
    ∙ ap (λ s. told s (get m q)) (sym (sum_by-cons (put_at q) x xs))

none_is : (q k : List ℕ) (pairs : List (List ℕ × ℕ)) → q ≡ k → All (λ b. k ≢ b.0) pairs → sum_by (is_at q) pairs ≡ 0
none_is q k [] is h = refl
none_is q k (x ∷ xs) is h =
    let none : cond {A = ℕ} (same q x.0) 1 0 ≡ 0
    = ap (λ b. cond {A = ℕ} b 1 0) (not_same q x.0 (λ e. All-head (λ b. k ≢ b.0) x xs h (sym is ∙ e))) in
    let rest : sum_by (is_at q) xs ≡ 0 = none_is q k xs is (All-tail (λ b. k ≢ b.0) x xs h) in
    sum_by-cons (is_at q) x xs ∙ omega (arith, none, rest)

once_at : (q : List ℕ) (pairs : List (List ℕ × ℕ)) → KeysDiffer pairs → sum_by (is_at q) pairs ≤ 1
once_at q [] differ = let none : 0 ≤ 1 = omega arith in none
once_at q (x ∷ xs) differ =
    let later : All (λ b. x.0 ≢ b.0) xs = λ j d within. differ 0 (suc j) d (omega arith) (omega (arith, within)) in
    let rest : sum_by (is_at q) xs ≤ 1
    = once_at q xs (λ i j d before within. differ (suc i) (suc j) d (omega (arith, before)) (omega (arith, within))) in
    subst (λ s. s ≤ 1) (sym (sum_by-cons (is_at q) x xs))
    (elim (same q x.0) as (λ b. same q x.0 ≡ b → cond b 1 0 + sum_by (is_at q) xs ≤ 1) [
      | true ↦ λ e.
          omega (arith, none_is q x.0 xs (same_key q x.0 e) later, same_key q x.0 e)
      | false ↦ λ e. let one : 0 + sum_by (is_at q) xs ≤ 1 = omega (arith, rest) in one
    ] refl)

pub order_does_not_show : (m : TextMap) (xs ys : List (List ℕ × ℕ)) → KeysDiffer xs → IsPermutation xs ys
    → with_all m xs ≡ with_all m ys
order_does_not_show m xs ys differ moved = grind (arith, alike, once_at, get_with_all, told, sum_by-IsPermutation)
