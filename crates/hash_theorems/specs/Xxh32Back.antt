-- XXH32's steps taken back: the inverse of each product is that of an odd number modulo 2 ^ 32.
use Rattle.std.specs.Prelude.{ℕ, zero, suc, ◌-◌, nat_lt, if◌then◌else◌, List, [], ◌∷◌, slice_index, fold, reverse}
use Rattle.hash_words.specs.Words.{le, rotl, add, sub, xorshift}
use Rattle.hash_blocks.specs.Blocks.{blocks, tail}
use Rattle.hash_theorems.specs.BlockFacts.{blocks_before}
use Rattle.hash_blocks.specs.Xxh32.{q2, q3, q5, product, words_of, start, after_block, converged}

-- what undoes a product by a prime
abbrev pub un_q1 : ℕ
un_q1 = 0x0e8b2f51

abbrev pub un_q2 : ℕ
un_q2 = 0xb6c92f47

abbrev pub un_q3 : ℕ
un_q3 = 0xa89ed915

abbrev pub un_q4 : ℕ
un_q4 = 0xa0fe3bcf

-- the sum that a rotation and a product by a prime made this of
unfoldable pub unturned : (turn inverse : ℕ) → ℕ → ℕ
unturned turn inverse h = rotl 32 (product h inverse) turn

-- before four bytes and one byte, and a lane before one word
unfoldable pub four_out : ℕ → ℕ → ℕ
four_out h word = sub 32 (unturned 15 un_q4 h) (product word q3)

unfoldable pub byte_out : ℕ → ℕ → ℕ
byte_out h byte = sub 32 (unturned 21 un_q1 h) (product byte q5)

unfoldable pub lane_out : ℕ → ℕ → ℕ
lane_out lane word = sub 32 (unturned 19 un_q1 lane) (product word q2)

-- the lanes before a block
unfoldable pub before_block : List ℕ → List ℕ → List ℕ
before_block lanes block =
    let words = words_of block in
    lane_out (slice_index lanes 0) (slice_index words 0) ∷ lane_out (slice_index lanes 1) (slice_index words 1)
    ∷ lane_out (slice_index lanes 2) (slice_index words 2) ∷ lane_out (slice_index lanes 3) (slice_index words 3) ∷ []

-- before what is left, from the length of a text and what its whole blocks are in
abbrev pub begun : ℕ → List ℕ → ℕ → ℕ
begun seed text total = if nat_lt total 16 then add 32 seed q5 else converged (blocks 16 after_block (start seed) text)

-- before what is left
abbrev pub rest_out : ℕ → List ℕ → ℕ
rest_out h left = blocks_before 4 (λ h block. four_out h (le block)) (fold byte_out h (reverse (tail 4 left))) left

-- a lane before the whole blocks of a text, of which it takes the words of its place
abbrev pub lane_back : (place : ℕ) → ℕ → List ℕ → ℕ
lane_back place lane text = blocks_before 16 (λ lane block. lane_out lane (slice_index (words_of block) place)) lane text

-- the word that leads from one to another: behind the blocks, and in a lane
unfoldable pub four_between : ℕ → ℕ → ℕ
four_between from to = product (sub 32 (unturned 15 un_q4 to) from) un_q3

unfoldable pub word_between : ℕ → ℕ → ℕ
word_between from to = product (sub 32 (unturned 19 un_q1 to) from) un_q2

-- how far the lane of a place is turned before the lanes are added
abbrev pub turn_of : ℕ → ℕ
turn_of zero = 1
turn_of (suc zero) = 7
turn_of (suc (suc zero)) = 12
turn_of place = 18

-- the lane that makes a wanted sum in the place of another, which with the same other lanes makes a sum
unfoldable pub lane_for : (place wanted sum lane : ℕ) → ℕ
lane_for place wanted sum lane =
    rotl 32 (add 32 (sub 32 wanted sum) (rotl 32 lane (turn_of place))) (32 - turn_of place)

-- before the last mix
unfoldable pub last_unmix : ℕ → ℕ
last_unmix h =
    xorshift (xorshift (product (xorshift (xorshift (product (xorshift h 16) un_q3) 13) 26) un_q2) 15) 30
