-- The bits of a number that is shifted or cut off.
use Rattle.hash_words.proofs.Common.{◌≡◌, ℕ, ◌+◌, ◌/◌, ◌%◌, ◌^◌, ◌<◌, refl, sym, ◌∙◌, ap, add_comm, bit_at, shr-shr, shr_split, bit_at_cat_low}

pub bit_at-shr : (x k j : ℕ) → bit_at (x / 2 ^ k) j ≡ bit_at x (j + k)
bit_at-shr x k j = rw (shr-shr x k j, add_comm k j) refl

pub bit_at-low : (n w j : ℕ) → j < w → bit_at (n % 2 ^ w) j ≡ bit_at n j
bit_at-low n w j j_in = sym (bit_at_cat_low (n / 2 ^ w) w (n % 2 ^ w) j j_in) ∙ ap (λ m. bit_at m j) (shr_split n w)
