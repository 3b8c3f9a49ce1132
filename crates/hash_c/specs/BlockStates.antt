-- What the state of a hash by the block stands for that a caller in C keeps.
use Rattle.std.specs.Prelude.{ℕ, ◌≡◌, ◌<◌, List}
use Rattle.hash_blocks.specs.Blocks.{Position, position, position_of}
use Rattle.hash_c.specs.InWords.{of_murmur3, of_murmur3_32, of_siphash, of_xxh32, of_xxh64}
use Rattle.hash_c.specs.declared.block.BlockState.{BlockState}
use Rattle.hash_blocks.specs.Murmur3 as murmur3_32
use Rattle.hash_blocks.specs.Murmur3x128 as murmur3
use Rattle.hash_blocks.specs.SipHash as siphash
use Rattle.hash_blocks.specs.Xxh32Rule as xxh32
use Rattle.hash_blocks.specs.Xxh64Rule as xxh64

abbrev pub mark_xxh32 : ℕ
mark_xxh32 = 0x5b39_d3a6_8cf0_7101

abbrev pub mark_xxh64 : ℕ
mark_xxh64 = 0x5b39_d3a6_8cf0_7102

abbrev pub mark_murmur3_32 : ℕ
mark_murmur3_32 = 0x5b39_d3a6_8cf0_7103

abbrev pub mark_murmur3 : ℕ
mark_murmur3 = 0x5b39_d3a6_8cf0_7104

abbrev pub mark_siphash13 : ℕ
mark_siphash13 = 0x5b39_d3a6_8cf0_7105

abbrev pub mark_siphash24 : ℕ
mark_siphash24 = 0x5b39_d3a6_8cf0_7106

-- where a hasher stands that keeps these numbers, if of_words says what its words are
abbrev pub place : {S : Type 0} → (List ℕ → ℕ → S) → BlockState → Position S
place of_words s = position_of (of_words s.words s.long) s.buffer s.kept s.length

-- it has the mark, and less than a block of n bytes is left
abbrev pub IsUsable : ℕ → ℕ → BlockState → Type 0
IsUsable mark n s = (s.mark ≡ mark) × (s.kept < n)

-- it is usable, and stands behind the text, from what is kept of no blocks
pub record IsStateOf {S : Type 0} (mark n : ℕ) (of_words : List ℕ → ℕ → S) (block : S → List ℕ → S) (s : BlockState) (start : S)
    (text : List ℕ) : Type 0 where
  pub usable : IsUsable mark n s
  pub there : place of_words s ≡ position n block start text

-- of each hash, under its seed or its key
abbrev pub IsXxh32State : BlockState → ℕ → List ℕ → Type 0
IsXxh32State s seed = IsStateOf mark_xxh32 16 of_xxh32 xxh32.block_in s (xxh32.started seed)

abbrev pub IsXxh64State : BlockState → ℕ → List ℕ → Type 0
IsXxh64State s seed = IsStateOf mark_xxh64 32 of_xxh64 xxh64.block_in s (xxh64.started seed)

abbrev pub IsMurmur32State : BlockState → ℕ → List ℕ → Type 0
IsMurmur32State s seed = IsStateOf mark_murmur3_32 4 of_murmur3_32 murmur3_32.after_block s seed

abbrev pub IsMurmur3State : BlockState → ℕ → List ℕ → Type 0
IsMurmur3State s seed = IsStateOf mark_murmur3 16 of_murmur3 murmur3.after_block s (seed, seed)

abbrev pub IsSip13State : BlockState → ℕ → ℕ → List ℕ → Type 0
IsSip13State s k0 k1 = IsStateOf mark_siphash13 8 of_siphash (siphash.after_block 1) s (siphash.start k0 k1)

abbrev pub IsSip24State : BlockState → ℕ → ℕ → List ℕ → Type 0
IsSip24State s k0 k1 = IsStateOf mark_siphash24 8 of_siphash (siphash.after_block 2) s (siphash.start k0 k1)
