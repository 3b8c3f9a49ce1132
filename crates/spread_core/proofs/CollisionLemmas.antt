-- Pairs of equal hashes.
use Rattle.spread_core.proofs.Common.{◌≡◌, ◌<◌, ◌+◌, ℕ, suc, Bool, false, eqb, List, [], ◌∷◌, ◌++◌, length, take, get_or, refl, arith, count_by, ne_eqb, get_or-take, nat_tests, common_steps, meetings, collisions, times}
use Rattle.std.proofs.Common.{length-take}
use Rattle.std.specs.List.Sorted.{IsNonDecreasing}

-- a hash more makes a pair with each before it that equals it
pub collisions_push : (hashes : List ℕ) (hash : ℕ) → collisions (hashes ++ hash ∷ []) ≡ collisions hashes + times hash hashes
unfolding meetings
collisions_push [] hash = refl
collisions_push (first ∷ hashes) hash =
    grind (arith, nat_tests, common_steps, collisions_push hashes hash)

-- a test that no element passes
pub count_by_none : (p : ℕ → Bool) (xs : List ℕ) → ((k : ℕ) → k < length xs → p (get_or xs k 0) ≡ false) → count_by p xs ≡ 0
count_by_none p [] fails = refl
count_by_none p (x ∷ xs) fails =
    grind (arith, common_steps, fails 0, count_by_none p xs (λ k below. fails (suc k) (omega arith)))

-- of hashes in order, the one at a place equals none before it where it differs from the one before
pub equal_none : (hashes : List ℕ) (i k : ℕ) → IsNonDecreasing hashes → k + 1 ≡ i → i < length hashes
    → (get_or hashes i 0 ≡ get_or hashes k 0 → ⊥) → times (get_or hashes i 0) (take i hashes) ≡ 0
equal_none hashes i k order next below differ = count_by_none (λ other. eqb other (get_or hashes i 0)) (take i hashes) (λ j j_in.
    let j_below : j < i = omega (arith, length-take i hashes) in
    let there = get_or-take i hashes j 0 j_below in
    let low = order j k 0 (omega arith) (omega arith) in
    let high = order k i 0 (omega arith) below in
    ne_eqb (get_or (take i hashes) j 0) (get_or hashes i 0) (λ same. differ (omega (arith, same, there, low, high))))
