-- Words with a constant in one of them.
use Rattle.hash_blocks.proofs.SipCommon.{◌≡◌, ℕ, List, length, slice_index, slice_set, bit_xor, refl, ap, fill_by_all, xored}
use Rattle.std.specs.Int.Bits.{xor_zero_r}

-- a state with a number xored into its third word
pub xored-third : (v : List ℕ) (x : ℕ) → length v ≡ 4 → slice_set v 2 (bit_xor (slice_index v 2) x) ≡ xored 0 0 x 0 v
unfolding xored
xored-third v x len =
    rw (xor_zero_r (slice_index v 0), xor_zero_r (slice_index v 1), xor_zero_r (slice_index v 3))
    (ap (λ (u : List ℕ). slice_set u 2 (bit_xor (slice_index v 2) x)) (fill_by_all (slice_index v) v 4 0 len (λ k _. refl)))
