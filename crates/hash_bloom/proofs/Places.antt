-- The places of probes, one after another.
use Rattle.hash_bloom.proofs.Common.{ℕ, zero, suc, refl, ◌-◌, ◌/◌, ◌^◌, ◌≡◌, ◌⊎◌, ◌↔◌, ◌+◌, ◌*◌, ◌%◌, Bool, ◌&&◌, IsTrue, List, sym, subst, arith, ⊎_elim, inl, below_more, add-mod, mod-add-mod, pow-suc, pow-zero, and_parts, and_from, HasBit, HasAll, IsAmong, probe_hash, common_steps, nat_tests}

-- how much more the hash of the probe behind probe i is
abbrev pub step_of : ℕ → ℕ → ℕ
step_of second i = (second + i * (i + 1) / 2) % 2 ^ 64

cube_is_product : (n : ℕ) → n ^ 3 ≡ n * n * n
cube_is_product n = rw (pow-suc n 2, pow-suc n 1, pow-suc n 0, pow-zero n) (grind arith)

two_halves : (i : ℕ) → 2 * (i * (i + 1) / 2) ≡ i * (i + 1)
two_halves zero = refl
two_halves (suc i) = grind (arith, nat_tests, common_steps, two_halves i)

six_sixths : (i : ℕ) → 6 * ((i ^ 3 - i) / 6) + i ≡ i ^ 3
six_sixths zero = refl
six_sixths (suc i) = grind (arith, nat_tests, common_steps, six_sixths i, cube_is_product i, cube_is_product (suc i), two_halves i)

-- the hash and the step of the next probe
module _ (second i step : ℕ) (is_step : step ≡ step_of second i) where
  pub next_hash : (first hash : ℕ) → hash ≡ probe_hash first second i → (hash + step) % 2 ^ 64 ≡ probe_hash first second (i + 1)
  next_hash first hash is =
      let cube : (i + 1) ^ 3 ≡ i ^ 3 + 3 * (i * (i + 1)) + 1 = rw (cube_is_product i, cube_is_product (i + 1)) (grind arith) in
      let more : first + (i + 1) * second + ((i + 1) ^ 3 - (i + 1)) / 6
      ≡ first + i * second + (i ^ 3 - i) / 6 + (second + i * (i + 1) / 2) =
      omega (arith, cube, two_halves i, six_sixths i) in
      rw (is, is_step, more) (sym (add-mod (first + i * second + (i ^ 3 - i) / 6) (second + i * (i + 1) / 2) (2 ^ 64)))

  pub next_step : (step + (i + 1)) % 2 ^ 64 ≡ step_of second (i + 1)
  next_step = grind (arith, nat_tests, common_steps, two_halves, mod-add-mod)

module _ (places : ℕ → ℕ) (i at : ℕ) (is : at ≡ places i) where
  pub all_more : (words : List ℕ) → HasAll words places i → HasBit words at → HasAll words places (i + 1)
  all_more words all here = below_more _ _ all (subst (HasBit words) is here)

  module _ (old mid : List ℕ) (before : (j : ℕ) → HasBit mid j ↔ (HasBit old j ⊎ IsAmong places i j)) where
    -- the bits of one place more
    pub set_more : (new : List ℕ) → ((j : ℕ) → HasBit new j ↔ (HasBit mid j ⊎ j ≡ at))
        → (j : ℕ) → HasBit new j ↔ (HasBit old j ⊎ IsAmong places (i + 1) j)
    set_more new step j = (
      λ h. grind (arith, (step j).0 h, (before j).0, is),
      grind (arith, nat_tests, common_steps),
    )

    -- all were set at first where all so far were, and this one is set now
    pub before_more : (all here : Bool) → IsTrue all ↔ HasAll old places i → IsTrue here ↔ HasBit mid at
        → IsTrue (all && here) ↔ HasAll old places (i + 1)
    before_more all here so_far now = (
      λ both.
          let parts = and_parts all here both in
          let all_old = so_far.0 parts.0 in
          all_more old all_old (⊎_elim (λ o. o) (λ a. subst (HasBit old) a.2 (all_old a.0 a.1)) ((before at).0 (now.0 parts.1))),
      λ every. and_from all here
          (so_far.1 (λ k less. every k (omega arith)))
          (now.1 ((before at).1 (inl (subst (HasBit old) (sym is) (every i (omega arith)))))),
    )
