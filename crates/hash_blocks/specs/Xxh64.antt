-- XXH64 (Yann Collet, github.com/Cyan4973/xxHash, doc/xxhash_spec.md) as a function of the whole text. A word is a number below 2 ^ 64.
use Rattle.std.specs.Prelude.{ℕ, ◌*◌, ◌%◌, ◌^◌, nat_lt, if◌then◌else◌, List, [], ◌∷◌, length, fold, slice_index, bit_xor}
use Rattle.hash_words.specs.Words.{le, rotl, add, sub, xorshift}
use Rattle.hash_words.specs.Pieces.{le_words}
use Rattle.hash_blocks.specs.Blocks.{blocks, tail}

-- the five primes
abbrev pub p1 : ℕ
p1 = 0x9E3779B185EBCA87

abbrev pub p2 : ℕ
p2 = 0xC2B2AE3D27D4EB4F

abbrev pub p3 : ℕ
p3 = 0x165667B19E3779F9

abbrev pub p4 : ℕ
p4 = 0x85EBCA77C2B2AE63

abbrev pub p5 : ℕ
p5 = 0x27D4EB2F165667C5

abbrev pub product : ℕ → ℕ → ℕ
product x p = x * p % 2 ^ 64

-- step 2: a lane after one word
unfoldable pub round : ℕ → ℕ → ℕ
round lane word = product (rotl 64 (add 64 lane (product word p2)) 31) p1

-- step 1: the four lanes before the first block
unfoldable pub start : ℕ → List ℕ
start seed = add 64 (add 64 seed p1) p2 ∷ add 64 seed p2 ∷ seed ∷ sub 64 seed p1 ∷ []

-- the lanes after a block of 32 bytes, a word for each
unfoldable pub after_block : List ℕ → List ℕ → List ℕ
after_block lanes block =
    let words = le_words block in
    round (slice_index lanes 0) (slice_index words 0) ∷ round (slice_index lanes 1) (slice_index words 1)
    ∷ round (slice_index lanes 2) (slice_index words 2) ∷ round (slice_index lanes 3) (slice_index words 3) ∷ []

-- step 3: the lanes in one word
unfoldable pub merged : ℕ → ℕ → ℕ
merged h lane = add 64 (product (bit_xor h (round 0 lane)) p1) p4

abbrev pub turned_sum : List ℕ → ℕ
turned_sum lanes =
    add 64 (add 64 (add 64 (rotl 64 (slice_index lanes 0) 1) (rotl 64 (slice_index lanes 1) 7)) (rotl 64 (slice_index lanes 2) 12))
    (rotl 64 (slice_index lanes 3) 18)

unfoldable pub converged : List ℕ → ℕ
converged lanes =
    merged (merged (merged (merged (turned_sum lanes) (slice_index lanes 0)) (slice_index lanes 1)) (slice_index lanes 2))
    (slice_index lanes 3)

-- step 5: what is left, eight bytes, four bytes and one byte at a time
unfoldable pub eight_in : ℕ → ℕ → ℕ
eight_in h word = add 64 (product (rotl 64 (bit_xor h (round 0 word)) 27) p1) p4

unfoldable pub four_in : ℕ → ℕ → ℕ
four_in h word = add 64 (product (rotl 64 (bit_xor h (product word p1)) 23) p2) p3

unfoldable pub byte_in : ℕ → ℕ → ℕ
byte_in h byte = product (rotl 64 (bit_xor h (product byte p5)) 11) p1

abbrev pub eights_in : ℕ → List ℕ → ℕ
eights_in = blocks 8 (λ h block. eight_in h (le block))

abbrev pub fours_in : ℕ → List ℕ → ℕ
fours_in = blocks 4 (λ h block. four_in h (le block))

unfoldable pub rest_in : ℕ → List ℕ → ℕ
rest_in h left = fold byte_in (fours_in (eights_in h left) (tail 8 left)) (tail 4 (tail 8 left))

-- step 6: the last mix (the avalanche)
unfoldable pub last_mix : ℕ → ℕ
last_mix h = xorshift (product (xorshift (product (xorshift h 33) p2) 29) p3) 32

-- steps 4 to 6: the length is added, and what is left goes in
abbrev pub ended : ℕ → List ℕ → ℕ → ℕ
ended h left total = last_mix (rest_in (add 64 h total) left)

-- the hash of a text under a seed: below 32 bytes there are no lanes
abbrev pub xxh64 : ℕ → List ℕ → ℕ
xxh64 seed text =
    let h = if nat_lt (length text) 32 then add 64 seed p5 else converged (blocks 32 after_block (start seed) text) in
    ended h (tail 32 text) (length text)
