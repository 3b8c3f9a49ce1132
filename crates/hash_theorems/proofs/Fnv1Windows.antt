-- Two texts that a window of FNV-1a separates have different FNV-1 hashes: FNV-1 is FNV-1a without its last product.
use Rattle.hash_theorems.proofs.MoreCommon.{◌≡◌, ◌≢◌, ℕ, ◌*◌, ◌%◌, ◌^◌, List, [], ◌∷◌, fold, bit_xor, refl, lit<, IsText, DifferWithin, recurrence-fold, DifferWithin-fold, common_steps, nat_tests, rules, arith}
use Rattle.hash_laws.specs.Recurrence.{recurrence}
use Rattle.hash_bytes.specs.Fnv.{fnv1_step, fnv1a32_basis, fnv1a64_basis}
use Rattle.hash_theorems.proofs.FnvWindows.{fnv1a32_separates, fnv1a64_separates}
use Rattle.hash_more.specs.Fnv1.{fnv1_32_from, fnv1_64_from}

module _ (width prime : ℕ) where
  abbrev times : ℕ → ℕ
  times h = h * prime % 2 ^ width

  -- from a product, FNV-1a leads to the product of where FNV-1 leads
  fold_times : (s : ℕ) (text : List ℕ)
      → fold (λ h b. bit_xor h b * prime % 2 ^ width) (times s) text ≡ times (fold (fnv1_step width prime) s text)
  fold_times s [] = refl
  fold_times s (b ∷ text) = fold_times (fnv1_step width prime s b) text

  same_by_fnv1a : (s : ℕ) (x y : List ℕ) → recurrence (fnv1_step width prime) s x ≡ recurrence (fnv1_step width prime) s y
      → fold (λ h b. bit_xor h b * prime % 2 ^ width) (times s) x ≡ fold (λ h b. bit_xor h b * prime % 2 ^ width) (times s) y
  same_by_fnv1a s x y e = grind (arith, nat_tests, common_steps, fold_times, recurrence-fold)

pub fnv1_32_apart : (x y : List ℕ) → IsText x → IsText y → DifferWithin 2 0 x y
    → fnv1_32_from fnv1a32_basis x ≢ fnv1_32_from fnv1a32_basis y
fnv1_32_apart x y xs ys window same = search (rules, DifferWithin-fold, fnv1a32_separates, lit<, same_by_fnv1a)

pub fnv1_64_apart : (x y : List ℕ) → IsText x → IsText y → DifferWithin 3 0 x y
    → fnv1_64_from fnv1a64_basis x ≢ fnv1_64_from fnv1a64_basis y
fnv1_64_apart x y xs ys window same = search (rules, DifferWithin-fold, fnv1a64_separates, lit<, same_by_fnv1a)
