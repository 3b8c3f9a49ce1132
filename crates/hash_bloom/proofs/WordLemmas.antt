-- Words joined by or, and the last word of a filter.
use Rattle.hash_bloom.proofs.Common.{ℕ, ◌≡◌, ◌≢◌, ◌⊎◌, ◌↔◌, ◌+◌, ◌-◌, ◌*◌, ◌/◌, ◌%◌, ◌^◌, ◌<◌, ◌≤◌, List, length, get_or, sym, ap, ◌∙◌, arith, ⊎_elim, bit_or, shr-shr, bit_at, cases_eq, cases_lt, get_or_past, bit_at_or, bit_at-lt, bit_at_above, bit_at-zero, same_from_bits, HasBit, common_steps, nat_tests}

pub united : (old others new : List ℕ) → ((k : ℕ) → get_or new k 0 ≡ bit_or (get_or old k 0) (get_or others k 0))
    → (j : ℕ) → HasBit new j ↔ (HasBit old j ⊎ HasBit others j)
united old others new each j = grind (arith, nat_tests, common_steps, bit_at_or, bit_at-lt)

-- beyond the bits lies the rest of the last word alone
module _ (words : List ℕ) (bits : ℕ) (enough : bits ≤ 64 * length words) (no_more : 64 * length words < bits + 64)
    (inside : bits % 64 ≢ 0) where
  abbrev pub last : ℕ
  last = get_or words (bits / 64) 0

  none_beyond : last / 2 ^ (bits % 64) ≡ 0 → (j : ℕ) → HasBit words j → j < bits
  none_beyond clear j has = ⊎_elim
      (λ (below : j < bits). below)
      (λ (beyond : bits ≤ j). ⊎_elim
      (λ (same : j / 64 ≡ bits / 64).
      grind (arith, nat_tests, common_steps, shr-shr last (bits % 64) (j % 64 - bits % 64), bit_at-zero (j % 64 - bits % 64)))
      (λ (other : j / 64 ≢ bits / 64).
      let none = get_or_past words (j / 64) 0 (omega arith) in
      grind (arith, none, bit_at-zero (j % 64), has))
      (cases_eq (j / 64) (bits / 64)))
      (cases_lt j bits)

  all_clear : last < 2 ^ 64 → ((j : ℕ) → HasBit words j → j < bits) → last / 2 ^ (bits % 64) ≡ 0
  all_clear fits below = same_from_bits (last / 2 ^ (bits % 64)) 0 (λ i.
      let r : ℕ = bits % 64 in
      let moved : bit_at (last / 2 ^ r) i ≡ bit_at last (r + i) = ap (λ n. n % 2) (shr-shr last r i) in
      let zero_bit : bit_at last (r + i) ≡ 0 = ⊎_elim
      (λ (within : r + i < 64).
      let j : ℕ = 64 * (bits / 64) + (r + i) in
      let word : j / 64 ≡ bits / 64 = omega arith in
      grind (arith, nat_tests, common_steps, bit_at-lt))
      (λ (above : 64 ≤ r + i). bit_at_above last 64 (r + i) fits above)
      (cases_lt (r + i) 64) in
      moved ∙ zero_bit ∙ sym (bit_at-zero i))

  pub clear_beyond : last < 2 ^ 64 → (last / 2 ^ (bits % 64) ≡ 0) ↔ ((j : ℕ) → HasBit words j → j < bits)
  clear_beyond fits = (none_beyond, all_clear fits)
