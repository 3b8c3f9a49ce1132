use Rattle.hash_c.proofs.Common.{ℕ, ◌%◌, ◌^◌, arith, xor_lt, xor_twice, crc_answer, all_ones}
use Rattle.hash_c.proofs.parts.hashers_crc32_write.Goals as goal

-- the answer of an answer is the state
pub returns-clause-value : goal.returns-clause-value
returns-clause-value c =
    let low : ℕ = c.args.hash % 2 ^ 32 in
    c.written.ensures.follows (crc_answer low) (xor_lt 32 low all_ones (omega arith) (omega arith)) (xor_twice low all_ones)
