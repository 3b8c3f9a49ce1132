-- What the rule of MurmurHash3_x86_32 cites: of the length only the low 32 bits count.
use Rattle.std.proofs.Common.{◌≡◌, ℕ, ◌%◌, ◌^◌, List, bit_xor, ap, arith}
use Rattle.hash_words.specs.Words.{le}
use Rattle.hash_blocks.specs.Murmur3.{scramble, last_mix, ended}

pub total_wraps : (h : ℕ) (left : List ℕ) (total : ℕ) → ended h left (total % 2 ^ 64) ≡ ended h left total
total_wraps h left total =
    let low : total % 2 ^ 64 % 2 ^ 32 ≡ total % 2 ^ 32 = omega arith in
    ap (λ n. last_mix (bit_xor (bit_xor h (scramble (le left))) n)) low
