-- MurmurHash3_x64_128 taken back: the inverse of each product is that of an odd number modulo 2 ^ 64.
use Rattle.std.specs.Prelude.{ℕ, ◌+◌, ◌-◌, ◌*◌, ◌%◌, ◌^◌, ◌<◌, List, ◌++◌, take, drop, slice_index, bit_xor}
use Rattle.std.specs.Int.{w64, to_le_bytes}
use Rattle.hash_words.specs.Words.{le, rotl, sub, xorshift}
use Rattle.hash_blocks.specs.Murmur3x128.{scrambled, scramble1, scramble2}

-- the words of which `scramble1` and `scramble2` make this one
abbrev pub unscramble1 : ℕ → ℕ
unscramble1 = scrambled 33 0xa81e14edd9de2c7f 0xa98409e882ce4d7d

abbrev pub unscramble2 : ℕ → ℕ
unscramble2 = scrambled 31 0xa98409e882ce4d7d 0xa81e14edd9de2c7f

-- a word turned, back
unfoldable pub turned_back : (turn constant : ℕ) → ℕ → ℕ → ℕ
turned_back turn constant h other =
    rotl 64 (sub 64 ((h + (2 ^ 64 - constant)) * 0xcccccccccccccccd % 2 ^ 64) other) turn

-- the two words before theirs were folded in, each from the other
abbrev pub folded1 : ℕ → ℕ → ℕ
folded1 h1 old2 = turned_back 37 0x52dce729 h1 old2

abbrev pub folded2 : ℕ → ℕ → ℕ
folded2 h2 h1 = turned_back 33 0x38495ab5 h2 h1

-- the state before a block
abbrev pub before_block : ℕ × ℕ → List ℕ → ℕ × ℕ
before_block (h1, h2) block =
    let old2 = bit_xor (folded2 h2 h1) (scramble2 (le (drop 8 block))) in
    (bit_xor (folded1 h1 old2) (scramble1 (le (take 8 block))), old2)

-- the block that leads from one state to another
abbrev pub block_between : ℕ × ℕ → ℕ × ℕ → List ℕ
block_between (s1, s2) (t1, t2) =
    to_le_bytes w64 (unscramble1 (bit_xor s1 (folded1 t1 s2))) ++ to_le_bytes w64 (unscramble2 (bit_xor s2 (folded2 t2 t1)))

-- the word of which the last mix makes this one
unfoldable pub last_unmix : ℕ → ℕ
last_unmix h = xorshift (xorshift (xorshift h 33 * 0x9cb4b2f8129337db % 2 ^ 64) 33 * 0x4f74430c22a54005 % 2 ^ 64) 33

abbrev pub uncrossed : ℕ × ℕ → ℕ × ℕ
uncrossed (h1, h2) = let old2 = sub 64 h2 h1 in (sub 64 h1 old2, old2)

abbrev pub both_unmixed : ℕ × ℕ → ℕ × ℕ
both_unmixed (h1, h2) = (last_unmix h1, last_unmix h2)

abbrev pub unfolded : ℕ × ℕ → List ℕ → ℕ → ℕ × ℕ
unfolded (h1, h2) left total = (
  bit_xor (bit_xor h1 (total % 2 ^ 64)) (scramble1 (le (take 8 left))),
  bit_xor (bit_xor h2 (total % 2 ^ 64)) (scramble2 (le (drop 8 left))),
)

-- the state after all blocks, behind a hash
abbrev pub before_end : ℕ × ℕ → List ℕ → ℕ → ℕ × ℕ
before_end h left total = unfolded (uncrossed (both_unmixed (uncrossed h))) left total

-- two words of 64 bits
abbrev pub AreTwo : ℕ × ℕ → Type 0
AreTwo h = (h.0 < 2 ^ 64) × (h.1 < 2 ^ 64)

-- the numbers of a seed: one word
abbrev pub IsSeed : List ℕ → Type 0
IsSeed from = slice_index from 0 < 2 ^ 64
