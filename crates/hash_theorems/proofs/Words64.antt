-- XXH64 as a function of one word of eight bytes behind its whole blocks.
use Rattle.hash_theorems.proofs.BlockCommon.{◌≡◌, ◌≢◌, ℕ, ◌+◌, ◌*◌, ◌/◌, ◌%◌, ◌^◌, ◌<◌, ◌≤◌, List, ◌++◌, length, fold, refl, sym, ap, ◌∙◌, arith, lit<, length-append, ap₂, mod_below, pow_pos, le, add, Undoes, IsWord, ◌▷◌, likewise, IsText, IsFirstDifference, DifferInOneBlock, blocks_on, blocks_short, tail_on, tail_short, eights_in, xxh64, tail, eight_in, IsBlock, eight_between, common_steps, nat_tests}
use Rattle.hash_blocks.specs.Xxh64.{start, after_block, byte_in, fours_in, rest_in, last_mix}
use Rattle.hash_theorems.specs.Xxh64Back.{begun, rest_out, last_unmix}
use Rattle.hash_theorems.specs.Xxh64Words.{IsBehind, DifferInOneLastWord}
use Rattle.hash_theorems.proofs.BackLemmas.{framed-blocks, framed-tail, framed-length, tail-left, length-tail, ahead, behind, ahead-is, behind-is, shows, block_of_first}
use Rattle.hash_theorems.proofs.Steps64.{of_eights, of_eight_between, of_ended}

-- what is left, with a word in the middle
rest-framed : (h : ℕ) (front w back : List ℕ) → length front % 8 ≡ 0 → length w ≡ 8
    → rest_in h (front ++ (w ++ back)) ≡ rest_in (eight_in (eights_in h front) (le w)) back
unfolding rest_in
rest-framed h front w back place whole =
    ap₂ (λ (e : ℕ) (t : List ℕ). fold byte_in (fours_in e t) (tail 4 t))
    (framed-blocks 8 (lit< tt) (λ h block. eight_in h (le block)) h front w back place whole)
    (framed-tail 8 (lit< tt) (λ h block. eight_in h (le block)) h front w back place whole)

module _ (seed : ℕ) (front back : List ℕ) (fronts : IsText front) (backs : IsText back) (place : IsBehind (length front) (length back)) where
  abbrev n : ℕ
  n = length front + 8 + length back

  -- the word before the eight bytes
  abbrev from : ℕ
  from = eights_in (add 64 (begun seed front n) n) (tail 32 front)

  hash-is : (w : List ℕ) → length w ≡ 8 → xxh64 seed (front ++ (w ++ back)) ≡ last_mix (rest_in (eight_in from (le w)) back)
  hash-is w whole =
      let at = place.place in
      let few : length (tail 32 front ++ (w ++ back)) < 32 =
      omega (arith, length-append (tail 32 front) (w ++ back), length-append w back, length-tail 32 (lit< tt) front, whole) in
      let lanes = sym (blocks_on 32 (lit< tt) after_block (start seed) front (w ++ back)) ∙ blocks_short 32 (lit< tt) after_block _ _ few in
      let left = sym (tail_on 32 (lit< tt) front (w ++ back)) ∙ tail_short 32 (lit< tt) _ few in
      rw (framed-length 8 (lit< tt) front w back whole, lanes, left)
      (ap last_mix (rest-framed _ (tail 32 front) w back (omega (arith, length-tail 32 (lit< tt) front)) whole))

  -- the word in the middle, and the hash
  pub framed : Undoes (IsBlock 8) (IsWord 64) (λ w. xxh64 seed (front ++ (w ++ back))) (λ h. eight_between from (rest_out (last_unmix h) back))
  framed =
      let from_in = (of_eights (tail 32 front) (tail-left 32 (lit< tt) front fronts).0).there_in _ (mod_below _ (2 ^ 64) (pow_pos 64)) in
      likewise (λ w w_is. hash-is w w_is.1) (λ h _. refl) (of_eight_between from from_in ▷ of_ended back backs)

-- two texts that differ in one of these words
pub last_word-differs : (seed : ℕ) (x y : List ℕ) → IsText x → IsText y → DifferInOneLastWord x y → xxh64 seed x ≢ xxh64 seed y
last_word-differs seed x y xs ys last =
    let differ = last.differ in
    let after = last.behind in
    let fits = last.whole in
    let front = ahead 8 (lit< tt) x y xs ys differ fits in
    let back = behind 8 (lit< tt) x y xs ys differ fits in
    let front_is = ahead-is 8 (lit< tt) x y xs ys differ fits in
    let back_is = behind-is 8 (lit< tt) x y xs ys differ fits in
    let place : IsBehind (length front) (length back) = grind (arith, nat_tests, common_steps, behind) in
    shows 8 (lit< tt) x y xs ys differ fits (xxh64 seed) (framed seed front back front_is.0 back_is.0 place)

-- the word of the first difference is the one in which they differ
pub DifferInOneLastWord-at : (x y : List ℕ) (first : ℕ) → IsFirstDifference first x y → (differ : DifferInOneBlock 8 x y)
    → length x / 32 * 32 ≤ first / 8 * 8 → first / 8 * 8 + 8 ≤ length x → DifferInOneLastWord x y
DifferInOneLastWord-at x y first is differ behind whole =
    let here = block_of_first 8 x y first is differ in
    record { differ = differ; behind = omega (arith, here, behind); whole = omega (arith, here, whole) }
