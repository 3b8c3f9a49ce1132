-- The remainder by a multiplication with (2^64 - 1) / bits in place of a division.
use Rattle.hash_bloom.proofs.Common.{ℕ, ◌≡◌, ◌+◌, ◌-◌, ◌*◌, ◌/◌, ◌%◌, ◌^◌, ◌<◌, ◌≤◌, sym, ap, subst, ◌∙◌, arith, add-mul-mod_self_right, mod-eq_of_lt, div-mul-le_self, mul-le-mul_left, mul-le-mul_right, lt-div-mul-add, common_steps, nat_tests}

-- the multiple that is taken off is not above the hash, and less than two times bits below it
pub reduced : (hash bits inverse times : ℕ) → hash < 2 ^ 64 → 1 ≤ bits → inverse ≡ (2 ^ 64 - 1) / bits
    → times ≡ hash * inverse / 2 ^ 64 → (times * bits ≤ hash) × (hash < times * bits + 2 * bits)
reduced hash bits inverse times low some is_inverse is_times =
    let under : inverse * bits < 2 ^ 64 =
    omega (arith, subst (λ i. i * bits ≤ 2 ^ 64 - 1) (sym is_inverse) (div-mul-le_self (2 ^ 64 - 1) bits)) in
    let over : 2 ^ 64 ≤ inverse * bits + bits =
    omega (arith, subst (λ i. 2 ^ 64 - 1 < i * bits + bits) (sym is_inverse) (lt-div-mul-add some)) in
    let floor : times * 2 ^ 64 ≤ hash * inverse = omega (arith, is_times) in
    let ceil : hash * inverse + 1 ≤ times * 2 ^ 64 + 2 ^ 64 = omega (arith, is_times) in
    let floors : times * 2 ^ 64 * bits ≤ hash * inverse * bits = mul-le-mul_right bits floor in
    let ceils : (hash * inverse + 1) * bits ≤ (times * 2 ^ 64 + 2 ^ 64) * bits = mul-le-mul_right bits ceil in
    let below : hash * (inverse * bits) ≤ hash * 2 ^ 64 = mul-le-mul_left hash (omega (arith, under)) in
    let above : hash * 2 ^ 64 ≤ hash * (inverse * bits + bits) = mul-le-mul_left hash over in
    grind (arith, nat_tests, common_steps, mul-le-mul_right)

-- a number less one multiple is the remainder where it is below `bits`
pub rest_is_remainder : (n bits times rest : ℕ) → n ≡ rest + times * bits → rest < bits → rest ≡ n % bits
rest_is_remainder n bits times rest is less =
    sym (ap (λ m. m % bits) is ∙ add-mul-mod_self_right rest times bits ∙ mod-eq_of_lt less)
