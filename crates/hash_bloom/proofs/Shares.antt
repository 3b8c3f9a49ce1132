-- The numbers of bits and probes that let one strange key in 2^k pass.
use Rattle.hash_bloom.proofs.Common.{ℕ, ◌≡◌, ◌-◌, ◌*◌, ◌^◌, ◌<◌, ◌≤◌, ◌&&◌, leb, Bool, true, [], ◌∷◌, get_or, length, refl, arith, subst, list_all, range_with_len, and_parts, leb-true, AllPass-from_list_all, LetsFewPass, best_probes, bits_for_share, common_steps, nat_tests}
use Rattle.std.proofs.lemmas.List.FromFn.{get_or-range_with_len, length-range_with_len}

-- how many bits of 100 stay zero, for each k
abbrev zeros_at : ℕ → ℕ
zeros_at k =
    get_or (100 ∷ 60 ∷ 51 ∷ 54 ∷ 51 ∷ 47 ∷ 51 ∷ 48 ∷ 51 ∷ 50 ∷ 51 ∷ 50 ∷ 51 ∷ 50 ∷ 48 ∷ 50 ∷ 49 ∷ 50 ∷ 50 ∷ 50 ∷ 50 ∷ 50 ∷ 50 ∷ []) k 0

abbrev stays : ℕ → Bool
stays k =
    let bits = bits_for_share k in
    let probes = best_probes bits in
    leb (272 ^ probes * zeros_at k ^ bits) (100 ^ probes * 100 ^ bits)

abbrev passes : ℕ → Bool
passes k =
    let probes = best_probes (bits_for_share k) in
    leb (2 ^ k * (100 - zeros_at k) ^ probes) (100 ^ probes)

all_hold : list_all (λ k. stays k && passes k) (range_with_len 1 22) ≡ true
all_hold = refl

-- each of the 22, by computing
pub few_pass : (k : ℕ) → 1 ≤ k → k ≤ 22 → LetsFewPass k (bits_for_share k) (best_probes (bits_for_share k))
few_pass k some most =
    let below : k - 1 < length (range_with_len 1 22) = omega (arith, length-range_with_len 1 22) in
    let is : get_or (range_with_len 1 22) (k - 1) 0 ≡ k = omega (arith, get_or-range_with_len 1 22 (k - 1) 0 (omega arith)) in
    let both = and_parts (stays k) (passes k) (subst (λ n. (stays n && passes n) ≡ true) is
    (AllPass-from_list_all (λ n. stays n && passes n) (range_with_len 1 22) all_hold (k - 1) 0 below)) in
    grind (arith, nat_tests, common_steps, leb-true)
