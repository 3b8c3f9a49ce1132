-- A text as whole blocks of n bytes and what is left behind them, and where a hasher by the block stands.
use Rattle.std.specs.Prelude.{ℕ, ◌+◌, ◌*◌, ◌/◌, ◌%◌, ◌^◌, ◌<◌, List, ◌++◌, length, take, drop, fold}
use Rattle.hash_words.specs.Pieces.{pieces}
use Rattle.hash_laws.specs.Text.{IsText}

-- what the whole blocks of a text lead to
unfoldable pub blocks : {S : Type 0} → ℕ → (S → List ℕ → S) → S → List ℕ → S
blocks n block s text = fold block s (pieces n text)

-- what is left of a text behind its whole blocks
unfoldable pub tail : ℕ → List ℕ → List ℕ
tail n text = drop (length text / n * n) text

-- what is kept: of the whole blocks, of what is left, and of the length
pub record Position (S : Type 0) : Type 0 where
  pub state : S
  pub left : List ℕ
  pub total : ℕ

-- the position after a text, from what is kept of no blocks
abbrev pub position : {S : Type 0} → ℕ → (S → List ℕ → S) → S → List ℕ → Position S
position n block start text =
    record { state = blocks n block start text; left = tail n text; total = length text % 2 ^ 64 }

-- the position after more bytes
abbrev pub after : {S : Type 0} → ℕ → (S → List ℕ → S) → Position S → List ℕ → Position S
after n block at piece = record {
  state = blocks n block at.state (at.left ++ piece);
  left = tail n (at.left ++ piece);
  total = (at.total + length piece) % 2 ^ 64;
}

-- what a hasher's parts stand for: of its buffer the first bytes are kept
abbrev pub position_of : {S : Type 0} → S → List ℕ → ℕ → ℕ → Position S
position_of state buffer kept total = record { state = state; left = take kept buffer; total = total }

-- less than a block is left, of bytes, and the length is below 2^64
pub record IsPosition (n : ℕ) {S : Type 0} (at : Position S) : Type 0 where
  pub below_block : length at.left < n
  pub is_text : IsText at.left
  pub total_in : at.total < 2 ^ 64

-- of the buffer less than a block is kept, of bytes, and the length is below 2^64
pub record IsKept (n : ℕ) (buffer : List ℕ) (kept total : ℕ) : Type 0 where
  pub part : kept < n
  pub is_text : IsText (take kept buffer)
  pub total_in : total < 2 ^ 64
