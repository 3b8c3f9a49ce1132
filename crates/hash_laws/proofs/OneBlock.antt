-- The block in which a place lies.
use Rattle.hash_laws.proofs.WindowCommon.{◌≡◌, ◌≢◌, ◌↔◌, ℕ, ◌+◌, ◌-◌, ◌*◌, ◌/◌, ◌%◌, ◌<◌, ◌≤◌, List, ◌++◌, length, ap, sym, ◌∙◌, arith, div-add-mod', mod_below, div-mul-add, le-div, get_or_past, IsFirstDifference, AgreeFrom, DifferInOneBlock}
use Rattle.hash_laws.proofs.OneGroup.{DifferInOne-iff-agree, middles-DifferInOne}

module _ (n from : ℕ) (some : 0 < n) where
  split : from / n * n + from % n ≡ from
  split = div-add-mod' from n

  few : from % n < n
  few = mod_below from n some

  pub inside : (i : ℕ) → from ≤ i → i < from + (n - from % n) → i / n ≡ from / n
  inside i reached below =
      let q = from / n in
      let rest : i - q * n < n = omega (arith, split, few) in
      let whole : q * n + (i - q * n) ≡ i = omega (arith, split) in
      ap (λ m. m / n) (sym whole) ∙ div-mul-add q n (i - q * n) rest

  behind : (i : ℕ) → from + (n - from % n) ≤ i → i / n ≢ from / n
  behind i beyond e =
      let q = from / n in
      let next : (q + 1) * n ≤ i = omega (arith, split, few) in
      omega (arith, le-div (q + 1) i n some next, e)

  -- where the texts agree behind the block of their first difference, and only there, they differ in one block
  pub DifferInOneBlock-iff-agree : (x y : List ℕ) → length x ≡ length y → IsFirstDifference from x y
      → AgreeFrom (from + (n - from % n)) x y ↔ DifferInOneBlock n x y
  DifferInOneBlock-iff-agree x y len first =
      DifferInOne-iff-agree (λ i. i / n) from (from + (n - from % n)) x y len first inside behind

  -- where the block reaches the end
  pub agree_past : (x y : List ℕ) (end : ℕ) → length x ≡ length y → length x ≤ end → AgreeFrom end x y
  agree_past x y end len past i beyond = get_or_past x i 0 (omega arith) ∙ sym (get_or_past y i 0 (omega arith))

-- two middles of one frame that end within the block of n bytes in which the front does
abbrev pub middles-DifferInOneBlock : (n : ℕ) (front x y back : List ℕ) → length x ≡ length y → x ≢ y → length front % n + length x ≤ n
    → DifferInOneBlock n (front ++ (x ++ back)) (front ++ (y ++ back))
middles-DifferInOneBlock n front x y back len different room = middles-DifferInOne (λ i. i / n) front x y back len different (λ i from below.
    inside n (length front) (omega (arith, from, below, room)) i from (omega (arith, from, below, room)))
