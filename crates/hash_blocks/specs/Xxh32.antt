-- XXH32 (Yann Collet, github.com/Cyan4973/xxHash, doc/xxhash_spec.md) as a function of the whole text. A word is a number below 2 ^ 32.
use Rattle.std.specs.Prelude.{ℕ, ◌*◌, ◌%◌, ◌^◌, nat_lt, if◌then◌else◌, List, [], ◌∷◌, length, map, fold, slice_index}
use Rattle.hash_words.specs.Words.{le, rotl, add, sub, xorshift}
use Rattle.hash_words.specs.Pieces.{pieces}
use Rattle.hash_blocks.specs.Blocks.{blocks, tail}

-- the five primes
abbrev pub q1 : ℕ
q1 = 0x9E3779B1

abbrev pub q2 : ℕ
q2 = 0x85EBCA77

abbrev pub q3 : ℕ
q3 = 0xC2B2AE3D

abbrev pub q4 : ℕ
q4 = 0x27D4EB2F

abbrev pub q5 : ℕ
q5 = 0x165667B1

abbrev pub product : ℕ → ℕ → ℕ
product x p = x * p % 2 ^ 32

-- step 2: a lane after one word
unfoldable pub round : ℕ → ℕ → ℕ
round lane word = product (rotl 32 (add 32 lane (product word q2)) 13) q1

-- step 1: the four lanes before the first block
unfoldable pub start : ℕ → List ℕ
start seed = add 32 (add 32 seed q1) q2 ∷ add 32 seed q2 ∷ seed ∷ sub 32 seed q1 ∷ []

-- the four little-endian words of a block
unfoldable pub words_of : List ℕ → List ℕ
words_of block = map le (pieces 4 block)

-- the lanes after a block of 16 bytes, a word for each
unfoldable pub after_block : List ℕ → List ℕ → List ℕ
after_block lanes block =
    round (slice_index lanes 0) (slice_index (words_of block) 0) ∷ round (slice_index lanes 1) (slice_index (words_of block) 1)
    ∷ round (slice_index lanes 2) (slice_index (words_of block) 2) ∷ round (slice_index lanes 3) (slice_index (words_of block) 3) ∷ []

-- step 3: the lanes in one word
unfoldable pub converged : List ℕ → ℕ
converged lanes =
    add 32 (add 32 (add 32 (rotl 32 (slice_index lanes 0) 1) (rotl 32 (slice_index lanes 1) 7)) (rotl 32 (slice_index lanes 2) 12))
    (rotl 32 (slice_index lanes 3) 18)

-- step 5: what is left, four bytes and one byte at a time
unfoldable pub four_in : ℕ → ℕ → ℕ
four_in h word = product (rotl 32 (add 32 h (product word q3)) 17) q4

unfoldable pub byte_in : ℕ → ℕ → ℕ
byte_in h byte = product (rotl 32 (add 32 h (product byte q5)) 11) q1

abbrev pub fours_in : ℕ → List ℕ → ℕ
fours_in = blocks 4 (λ h block. four_in h (le block))

unfoldable pub rest_in : ℕ → List ℕ → ℕ
rest_in h left = fold byte_in (fours_in h left) (tail 4 left)

-- step 6: the last mix (the avalanche)
unfoldable pub last_mix : ℕ → ℕ
last_mix h = xorshift (product (xorshift (product (xorshift h 15) q2) 13) q3) 16

-- steps 4 to 6: the length is added, and what is left goes in
abbrev pub ended : ℕ → List ℕ → ℕ → ℕ
ended h left total = last_mix (rest_in (add 32 h total) left)

-- the hash of a text under a seed: below 16 bytes there are no lanes
abbrev pub xxh32 : ℕ → List ℕ → ℕ
xxh32 seed text =
    let h = if nat_lt (length text) 16 then add 32 seed q5 else converged (blocks 16 after_block (start seed) text) in
    ended h (tail 16 text) (length text)
