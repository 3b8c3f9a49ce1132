-- Places of which none falls: the last is the highest.
use Rattle.hash_c.proofs.Common.{ℕ, suc, zero, ◌≡◌, ◌+◌, ◌-◌, ◌≤◌, List, length, slice_index, subst, arith, AreOffsets, NoneFalls}

-- a later place is no lower
pub later_is_higher : (count : ℕ) (places : List ℕ) → NoneFalls count places → (i d : ℕ) → i + d ≤ count
    → slice_index places i ≤ slice_index places (i + d)
later_is_higher count places rise i zero within =
    let same : i ≡ i + zero = omega arith in
    subst (λ k. slice_index places i ≤ slice_index places k) same (omega arith)
later_is_higher count places rise i (suc d) within =
    let one_more : i + d + 1 ≡ i + suc d = omega arith in
    let before = later_is_higher count places rise i d (omega arith) in
    let step = rise (i + d) (omega arith) in
    subst (λ k. slice_index places i ≤ slice_index places k) one_more (omega (arith, before, step))

-- the last is no lower than any
pub last_is_highest : (count : ℕ) (places : List ℕ) → NoneFalls count places → (i : ℕ) → i ≤ count
    → slice_index places i ≤ slice_index places count
last_is_highest count places rise i within =
    let there : i + (count - i) ≡ count = omega arith in
    subst (λ k. slice_index places i ≤ slice_index places k) there (later_is_higher count places rise i (count - i) (omega arith))

-- so it is enough that the last does not pass the end
pub offsets_by_last : (size count : ℕ) (places : List ℕ) → length places ≡ count + 1 → slice_index places count ≤ size
    → NoneFalls count places → AreOffsets size count places
offsets_by_last size count places one_more last rise = record {
  one_more = one_more;
  first = omega (arith, last, last_is_highest count places rise 0 (omega arith));
  rise = rise;
  within = λ i less. omega (arith, last, last_is_highest count places rise (i + 1) (omega arith));
}

-- and it is needed
pub last_within : (size count : ℕ) (places : List ℕ) → AreOffsets size count places → slice_index places count ≤ size
last_within size zero places are = are.first
last_within size (suc n) places are =
    let one_more : n + 1 ≡ suc n = omega arith in
    subst (λ k. slice_index places k ≤ size) one_more (are.within n (omega arith))
