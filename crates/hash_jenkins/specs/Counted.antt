-- A position, and how many calls have mixed blocks on the way to it.
use Rattle.std.specs.Prelude.{ℕ, [], ◌+◌, ◌*◌, ◌/◌, ◌≤◌, ◌&&◌, nat_lt, nat_le, List, ◌++◌, length, if◌then◌else◌}
use Rattle.hash_jenkins.specs.Spooky.{Position, Short, Long, after, position}

pub record Counted : Type 0 where
  pub at : Position
  pub turns : ℕ

-- more bytes complete a block, or make the text a long one
abbrev pub MixesBlock : Position → List ℕ → Type 0
MixesBlock (Short seed1 seed2 text) bytes = 192 ≤ length (text ++ bytes)
MixesBlock (Long words t) bytes = 96 ≤ length (t ++ bytes)

-- the end of the block of 96 bytes in which a place lies
abbrev pub block_end : ℕ → ℕ
block_end place = (place + 95) / 96 * 96

-- how many calls mix in the whole blocks of kept bytes and more behind them: none where there is no block; two where
-- some bytes are kept and a block follows the one in which they end; one else
abbrev pub calls_over : ℕ → ℕ → ℕ
calls_over kept more =
    if nat_lt (kept + more) 96 then 0
    else if nat_lt 0 kept && nat_le (block_end kept + 96) (kept + more) then 2
    else 1

-- how many calls mix in the blocks that more bytes complete
abbrev pub mixing_calls : Position → List ℕ → ℕ
mixing_calls (Short seed1 seed2 text) bytes =
    if nat_lt (length (text ++ bytes)) 192 then 0 else calls_over (length text) (length bytes)
mixing_calls (Long words t) bytes = calls_over (length t) (length bytes)

-- a position after more bytes, with the calls counted
abbrev pub after_write : Counted → List ℕ → Counted
after_write s bytes = record { at = after s.at bytes; turns = s.turns + mixing_calls s.at bytes }

-- no bytes under two seeds, and no call
abbrev pub begun : ℕ → ℕ → Counted
begun seed1 seed2 = record { at = position seed1 seed2 []; turns = 0 }
