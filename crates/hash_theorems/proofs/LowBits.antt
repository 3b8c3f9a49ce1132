-- The low bits of a state after a word rest on the word's low bits.
use Rattle.hash_theorems.proofs.FxCommon.{ℕ, ◌≡◌, ◌-◌, ◌*◌, ◌%◌, ◌^◌, ◌≤◌, bit_xor, ap, sym, ◌∙◌, arith, xor_mod, mul-mod, common_steps, nat_tests}
use Rattle.std.proofs.Math.Pow.{mod-mod-pow}

-- a mask of w bits does not show below k of them
low_of_low : (w k n : ℕ) → k ≤ w → n % 2 ^ w % 2 ^ k ≡ n % 2 ^ k
low_of_low w k n within = ap (λ m. n % 2 ^ m % 2 ^ k) (omega (arith, within)) ∙ mod-mod-pow n (w - k) k

-- the low bits of a product
low_of_product : (a b key k : ℕ) → a % 2 ^ k ≡ b % 2 ^ k → a * key % 2 ^ k ≡ b * key % 2 ^ k
low_of_product a b key k same = mul-mod a key (2 ^ k) ∙ ap (λ n. n * (key % 2 ^ k) % 2 ^ k) same ∙ sym (mul-mod b key (2 ^ k))

pub low_of_step : (w k state key v u : ℕ) → k ≤ w → v % 2 ^ k ≡ u % 2 ^ k
    → bit_xor state v * key % 2 ^ w % 2 ^ k ≡ bit_xor state u * key % 2 ^ w % 2 ^ k
low_of_step w k state key v u within same = grind (arith, nat_tests, common_steps, xor_mod, low_of_low, low_of_product)
