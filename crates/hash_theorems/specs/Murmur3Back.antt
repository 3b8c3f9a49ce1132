-- MurmurHash3_x86_32 taken back: the inverse of each product is that of an odd number modulo 2 ^ 32.
use Rattle.std.specs.Prelude.{ℕ, ◌+◌, ◌-◌, ◌*◌, ◌%◌, ◌^◌, ◌<◌, List, slice_index, bit_xor}
use Rattle.std.specs.Int.{w32, to_le_bytes}
use Rattle.hash_words.specs.Words.{le, rotl, xorshift}
use Rattle.hash_blocks.specs.Murmur3.{scramble}

-- the word of which `scramble` makes this one
unfoldable pub unscramble : ℕ → ℕ
unscramble word = rotl 32 (word * 0x56ed309b % 2 ^ 32) 17 * 0xdee13bb1 % 2 ^ 32

-- the sum, the product and the rotation of a state taken back
unfoldable pub turned_back : ℕ → ℕ
turned_back h = rotl 32 ((h + (2 ^ 32 - 0xe6546b64)) * 0xcccccccd % 2 ^ 32) 19

-- the state before a block
abbrev pub before_block : ℕ → List ℕ → ℕ
before_block h block = bit_xor (turned_back h) (scramble (le block))

-- the block that leads from one state to another
abbrev pub block_between : ℕ → ℕ → List ℕ
block_between from to = to_le_bytes w32 (unscramble (bit_xor from (turned_back to)))

-- the state of which the last mix makes this one
unfoldable pub last_unmix : ℕ → ℕ
last_unmix h = xorshift (xorshift (xorshift (xorshift h 16 * 0x7ed1b41d % 2 ^ 32) 13) 26 * 0xa5cb9243 % 2 ^ 32) 16

-- the state after all blocks, behind a hash
abbrev pub before_end : ℕ → List ℕ → ℕ → ℕ
before_end hash left total = bit_xor (bit_xor (last_unmix hash) (total % 2 ^ 32)) (scramble (le left))

-- a word of 32 bits
abbrev pub IsWord : ℕ → Type 0
IsWord h = h < 2 ^ 32

-- the numbers of a seed: one word
abbrev pub IsSeed : List ℕ → Type 0
IsSeed from = slice_index from 0 < 2 ^ 32
