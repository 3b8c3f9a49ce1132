-- What the rule of SipHash cites: of the length only the low 8 bits count.
use Rattle.std.proofs.Common.{◌≡◌, ℕ, ◌%◌, ◌^◌, ◌+◌, ◌*◌, List, ap, arith}
use Rattle.hash_words.specs.Words.{le}
use Rattle.hash_blocks.specs.SipHash.{last_word, ended, folded, rounds, xored, after_word}

last_word_wraps : (left : List ℕ) (total : ℕ) → last_word left (total % 2 ^ 64) ≡ last_word left total
unfolding last_word
last_word_wraps left total =
    let low : total % 2 ^ 64 % 256 ≡ total % 256 = omega arith in
    ap (λ n. le left + n * 2 ^ 56) low

pub total_wraps : (c d : ℕ) (v left : List ℕ) (total : ℕ) → ended c d v left (total % 2 ^ 64) ≡ ended c d v left total
total_wraps c d v left total =
    ap (λ (w : ℕ). folded (rounds d (xored 0 0 0xff 0 (after_word c v w)))) (last_word_wraps left total)
