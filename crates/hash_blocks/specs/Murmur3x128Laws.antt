-- What the rule of MurmurHash3_x64_128 cites: of the length only the low 64 bits count.
use Rattle.std.proofs.Common.{◌≡◌, ℕ, ◌%◌, ◌^◌, List, take, drop, bit_xor, ap, arith}
use Rattle.hash_words.specs.Words.{le}
use Rattle.hash_blocks.specs.Murmur3x128.{scramble1, scramble2, crossed, both_mixed, ended}

pub total_wraps : (h : ℕ × ℕ) (left : List ℕ) (total : ℕ) → ended h left (total % 2 ^ 64) ≡ ended h left total
total_wraps h left total =
    let low : total % 2 ^ 64 % 2 ^ 64 ≡ total % 2 ^ 64 = omega arith in
    ap (λ n. crossed (both_mixed (crossed (
      bit_xor (bit_xor h.0 (scramble1 (le (take 8 left)))) n,
      bit_xor (bit_xor h.1 (scramble2 (le (drop 8 left)))) n,
    )))) low
