-- The hashes of two texts that differ within a window are different.
use Rattle.hashers.proofs.Common.{◌≢◌, ℕ, ◌^◌, List, lit<, djb2_step, fnv1a32_step, fnv1a64_step, sdbm_from, sdbm_step, IsText, DifferWithin, recurrence_is_fold, hash_apart, fnv1a32_from, fnv1a32_basis, fnv1a64_from, fnv1a64_basis, djb2_from}
use Rattle.hash_rounds.proofs.SumLemmas.{sdbm_sums}
use Rattle.hashers.proofs.Djb2Window.{djb2_separates, spread_after, Near}
use Rattle.hashers.proofs.SdbmWindow.{sdbm_separates, SdbmApart}
use Rattle.hash_theorems.proofs.FnvWindows.{fnv1a32_separates, fnv1a64_separates, Fnv32Apart, Fnv64Apart}

pub djb2_apart : (x y : List ℕ) → IsText x → IsText y → DifferWithin 6 0xE0 x y → djb2_from 5381 x ≢ djb2_from 5381 y
djb2_apart x y = hash_apart djb2_step (2 ^ 32) 6 224 (λ n. Near (spread_after n)) djb2_separates djb2_from
    (recurrence_is_fold djb2_step (2 ^ 32)) 5381 x y (lit< tt)

pub sdbm_apart : (x y : List ℕ) → IsText x → IsText y → DifferWithin 3 0 x y → sdbm_from 0 x ≢ sdbm_from 0 y
sdbm_apart x y = hash_apart sdbm_step (2 ^ 32) 3 0 SdbmApart sdbm_separates sdbm_from sdbm_sums.is_fold 0 x y (lit< tt)

pub fnv1a32_apart : (x y : List ℕ) → IsText x → IsText y → DifferWithin 2 0 x y
    → fnv1a32_from fnv1a32_basis x ≢ fnv1a32_from fnv1a32_basis y
fnv1a32_apart x y = hash_apart fnv1a32_step (2 ^ 32) 2 0 Fnv32Apart fnv1a32_separates fnv1a32_from
    (recurrence_is_fold fnv1a32_step (2 ^ 32)) fnv1a32_basis x y (lit< tt)

pub fnv1a64_apart : (x y : List ℕ) → IsText x → IsText y → DifferWithin 3 0 x y
    → fnv1a64_from fnv1a64_basis x ≢ fnv1a64_from fnv1a64_basis y
fnv1a64_apart x y = hash_apart fnv1a64_step (2 ^ 64) 3 0 Fnv64Apart fnv1a64_separates fnv1a64_from
    (recurrence_is_fold fnv1a64_step (2 ^ 64)) fnv1a64_basis x y (lit< tt)
