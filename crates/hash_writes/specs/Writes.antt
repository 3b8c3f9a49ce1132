-- What a write to a hasher writes.
use Rattle.std.specs.Prelude.{ℕ, ◌≡◌, List, [], ◌∷◌, map}
use Rattle.std.specs.List.{flat_map}
use Rattle.std.specs.Hash.{le_bytes}
use Rattle.hash_laws.specs.Text.{IsText}
use Rattle.hash_writes.specs.declared.writes.HasherWrite.{HasherWrite}
use Rattle.hash_writes.specs.declared.writes.HasherWrite.TheVariants.{Bytes, U8, U16, U32, U64, Usize}

-- the bytes of a write, of a number the lowest first
abbrev pub written : HasherWrite → List ℕ
written (Bytes bytes) = bytes.now
written (U8 value) = value ∷ []
written (U16 value) = le_bytes 2 value
written (U32 value) = le_bytes 4 value
written (U64 value) = le_bytes 8 value
written (Usize value) = le_bytes 8 value

-- the bytes of each write
abbrev pub all_written : List HasherWrite → List (List ℕ)
all_written writes = map written writes

-- the bytes of all writes, one after the other
abbrev pub joined_written : List HasherWrite → List ℕ
joined_written writes = flat_map written writes

-- a text was taken out: it leads from the new state to the old one, and from no other state in range
pub record IsTakenOut {S : Type 0} (in_range : S → Type 0) (after : S → List ℕ → S) (old new : S) (text : List ℕ) : Type 0 where
  pub is_text : IsText text
  pub back : after new text ≡ old
  pub only : (s : S) → in_range s → after s text ≡ old → new ≡ s
