-- XXH64's steps behind the whole blocks taken back: the inverse of each product is that of an odd number modulo 2 ^ 64.
use Rattle.std.specs.Prelude.{ℕ, nat_lt, if◌then◌else◌, List, [], ◌∷◌, slice_index, fold, reverse, bit_xor}
use Rattle.std.specs.Int.{w64, to_le_bytes}
use Rattle.hash_words.specs.Words.{le, rotl, add, sub, xorshift}
use Rattle.hash_words.specs.Pieces.{le_words}
use Rattle.hash_blocks.specs.Blocks.{blocks, tail}
use Rattle.hash_theorems.specs.BlockFacts.{blocks_before}
use Rattle.hash_blocks.specs.Xxh64.{p1, p2, p3, p4, p5, product, round, start, after_block, converged}

-- what undoes a product by a prime
abbrev pub un_p1 : ℕ
un_p1 = 0x0887493432badb37

abbrev pub un_p2 : ℕ
un_p2 = 0x0ba79078168d4baf

abbrev pub un_p3 : ℕ
un_p3 = 0xe9e9f4c41d6df849

-- a rotation, a product and a sum taken back
unfoldable pub unspun : (turn inverse sum : ℕ) → ℕ → ℕ
unspun turn inverse sum h = rotl 64 (product (sub 64 h sum) inverse) turn

-- a lane before one word
unfoldable pub lane_out : ℕ → ℕ → ℕ
lane_out x word = sub 64 (rotl 64 (product x un_p1) 33) (product word p2)

-- the lanes before a block
unfoldable pub before_block : List ℕ → List ℕ → List ℕ
before_block lanes block =
    let words = le_words block in
    lane_out (slice_index lanes 0) (slice_index words 0) ∷ lane_out (slice_index lanes 1) (slice_index words 1)
    ∷ lane_out (slice_index lanes 2) (slice_index words 2) ∷ lane_out (slice_index lanes 3) (slice_index words 3) ∷ []

-- the word of which `round` makes this one, from a lane of 0
unfoldable pub unround : ℕ → ℕ
unround x = product (rotl 64 (product x un_p1) 33) un_p2

-- before eight bytes, four bytes and one byte
abbrev pub eight_out : ℕ → ℕ → ℕ
eight_out h word = bit_xor (unspun 37 un_p1 p4 h) (round 0 word)

abbrev pub four_out : ℕ → ℕ → ℕ
four_out h word = bit_xor (unspun 41 un_p2 p3 h) (product word p1)

abbrev pub byte_out : ℕ → ℕ → ℕ
byte_out h byte = bit_xor (unspun 53 un_p1 0 h) (product byte p5)

-- before what is left, from the length of a text and what its whole blocks are in
abbrev pub begun : ℕ → List ℕ → ℕ → ℕ
begun seed text total = if nat_lt total 32 then add 64 seed p5 else converged (blocks 32 after_block (start seed) text)

-- before what is left
abbrev pub rest_out : ℕ → List ℕ → ℕ
rest_out h left =
    blocks_before 8 (λ h block. eight_out h (le block))
    (blocks_before 4 (λ h block. four_out h (le block)) (fold byte_out h (reverse (tail 4 (tail 8 left)))) (tail 8 left)) left

-- the eight bytes that lead from one word to another
abbrev pub eight_between : ℕ → ℕ → List ℕ
eight_between from to = to_le_bytes w64 (unround (bit_xor from (unspun 37 un_p1 p4 to)))

-- before the last mix
unfoldable pub last_unmix : ℕ → ℕ
last_unmix h = xorshift (product (xorshift (xorshift (product (xorshift h 32) un_p3) 29) 58) un_p2) 33
