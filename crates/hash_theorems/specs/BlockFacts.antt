-- What a hash by the block keeps that loses nothing: each block can be taken back, there is one block between any two states, and one
-- state behind each answer.
use Rattle.std.specs.Prelude.{◌≡◌, ℕ, ◌<◌, List, length, fold, reverse}
use Rattle.hash_words.specs.Pieces.{pieces}
use Rattle.hash_words.specs.Undoes.{Undoes}
use Rattle.hash_laws.specs.Text.{IsText}

-- a block of n bytes
abbrev pub IsBlock : ℕ → List ℕ → Type 0
IsBlock n block = IsText block × (length block ≡ n)

-- fewer bytes than a block
abbrev pub IsLeft : ℕ → List ℕ → Type 0
IsLeft n left = IsText left × (length left < n)

-- each block can be taken back, there is one block between two states, and one state behind an answer
pub record BlockFacts (n : ℕ) {S H : Type 0} (is_seed : List ℕ → Type 0) (in_range : S → Type 0) (is_answer : H → Type 0)
    (start : List ℕ → S) (block : S → List ℕ → S) (finish : S → List ℕ → ℕ → H)
    (unblock : S → List ℕ → S) (between : S → S → List ℕ) (unfinish : H → List ℕ → ℕ → S) : Type 0 where
  pub start_in : (from : List ℕ) → is_seed from → in_range (start from)
  pub of_block : (b : List ℕ) → IsBlock n b → Undoes in_range in_range (λ s. block s b) (λ s. unblock s b)
  pub of_between : (s : S) → in_range s → Undoes (IsBlock n) in_range (block s) (between s)
  pub of_end : (left : List ℕ) (total : ℕ) → IsLeft n left
      → Undoes in_range is_answer (λ s. finish s left total) (λ h. unfinish h left total)
  pub left_same : (s : S) (q r : List ℕ) (total : ℕ) → in_range s → IsLeft n q → IsLeft n r → length q ≡ length r
      → finish s q total ≡ finish s r total → q ≡ r

-- what the whole blocks of a text lead from, taken back from the last to the first
unfoldable pub blocks_before : {S : Type 0} → ℕ → (S → List ℕ → S) → S → List ℕ → S
blocks_before n unblock s text = fold unblock s (reverse (pieces n text))
