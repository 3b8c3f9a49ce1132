-- The lists of a new table.
use Rattle.hash_buckets.proofs.Common.{◌≡◌, ◌≤◌, ℕ, zero, suc, List, [], ◌∷◌, sym, ap, subst, ◌∙◌, refl, length, replicate, take, get_or, take-nil, length-replicate, Vec, empty, AppendsResults, FoldsTo, pairs_of_each, table_of, IsPlaced, AreBuckets, arith, rules, nat_tests, common_steps}
use Rattle.hash_buckets.proofs.Pairs.{empty_table}

-- none of the lists that the calls made has a pair
all_empty : {F : Type 0} (made : F → Vec (Vec ℕ × ℕ) → F → Type 0) → ((f : F) (x : Vec (Vec ℕ × ℕ)) (f' : F) → made f x f' → x.items ≡ [])
    → (lists : List (Vec (Vec ℕ × ℕ))) (f f' : F) → FoldsTo made f lists f' → pairs_of_each lists ≡ replicate (length lists) []
all_empty made each [] f f' steps = refl
all_empty made each (x ∷ lists) f f' steps = grind (arith, nat_tests, common_steps, all_empty made each lists _ _ steps.2)

none_at : (n i : ℕ) → get_or (replicate {A = List (List ℕ × ℕ)} n []) i [] ≡ []
none_at zero i = refl
none_at (suc n) zero = refl
none_at (suc n) (suc i) = none_at n i

placed : (number : List ℕ → ℕ) (n : ℕ) → 1 ≤ n → IsPlaced number n (replicate n [])
placed number n some = search (rules, length-replicate, none_at)

module _ {F : Type 0} (made : F → Vec (Vec ℕ × ℕ) → F → Type 0)
    (each : (f : F) (x : Vec (Vec ℕ × ℕ)) (f' : F) → made f x f' → x.items ≡ []) (n : ℕ) (old new : List (Vec (Vec ℕ × ℕ))) (f : F)
    (none : old ≡ []) (results : AppendsResults made (take n old) new f) (count : length new ≡ n) where
  are : pairs_of_each new ≡ replicate n []
  are = search (rules, take-nil, all_empty)

  -- they are the lists of a table
  pub new_placed : (number : List ℕ → ℕ) → 1 ≤ n → AreBuckets number n new
  new_placed number some = subst (IsPlaced number n) (sym are) (placed number n some)

  -- which is empty
  pub new_empty : table_of (pairs_of_each new) ≡ empty
  new_empty = ap table_of are ∙ empty_table n
