use Rattle.hash_bloom.proofs.Common.{◌≡◌, ◌+◌, ◌-◌, ◌*◌, ◌/◌, ◌^◌, ◌<◌, ◌≤◌, ℕ, ap₂, arith, common_steps, nat_tests}
use Rattle.hash_bloom.proofs.Reduction.{reduced, rest_is_remainder}
use Rattle.hash_bloom.proofs.bits.remainder.Goals as goal

-- h and i are the hash and the inverse at 128 bits
at_128_bits : (hash bits inverse h i : ℕ) → hash < 2 ^ 64 → 1 ≤ bits → inverse ≡ (2 ^ 64 - 1) / bits → h ≡ hash → i ≡ inverse
    → (h * i / 2 ^ 64 * bits ≤ hash) × (hash < h * i / 2 ^ 64 * bits + 2 * bits)
at_128_bits hash bits inverse h i low some is_inverse is_h is_i =
    reduced hash bits inverse (h * i / 2 ^ 64) low some is_inverse (ap₂ (λ m n. m * n / 2 ^ 64) is_h is_i)

pub overflow_sub-rest : goal.overflow_sub-rest
overflow_sub-rest c = grind (arith, nat_tests, common_steps, at_128_bits)

pub returns-then-rest-bits : goal.returns-then-rest-bits
returns-then-rest-bits c =
    let near = at_128_bits c.args.hash c.args.bits c.args.inverse _ _
    (omega arith) c.requires.some c.requires.inverse c.from.ensures c.from-2.ensures in
    rest_is_remainder c.args.hash c.args.bits (c.from.result * c.from-2.result / 2 ^ 64) _ (omega (arith, near.0)) c.if-rest-bits.true

pub returns-else-rest-bits : goal.returns-else-rest-bits
returns-else-rest-bits c =
    let near = at_128_bits c.args.hash c.args.bits c.args.inverse _ _
    (omega arith) c.requires.some c.requires.inverse c.from.ensures c.from-2.ensures in
    let times : ℕ = c.from.result * c.from-2.result / 2 ^ 64 in
    rest_is_remainder c.args.hash c.args.bits (times + 1) _
    (omega (arith, near.0, c.if-rest-bits.false)) (omega (arith, near.0, near.1, c.if-rest-bits.false))
